pub mod RunOutput
