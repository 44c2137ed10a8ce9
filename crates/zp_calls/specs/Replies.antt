-- Which replies can be printed: JSON texts are UTF-8 (RFC 8259, section 8.1).
use Rattle.std.specs.Prelude.{IfSome, All}
use Rattle.std.specs.Str.{IsUtf8}
use Rattle.zp_props.specs.Settings.{IsValue}
use Rattle.zp_calls.specs.declared.reply.Reply.{Reply}
use Rattle.zp_calls.specs.declared.reply.Reply.TheVariants as reply

-- every text of the reply is UTF-8
abbrev pub IsPrintable : Reply → Type 0
IsPrintable (reply.Errno v) = All IsUtf8 v.details
IsPrintable (reply.Names names) = All IsUtf8 names
IsPrintable (reply.Prop value source) = IfSome value IsValue × IfSome source IsUtf8
IsPrintable (reply.Exists b) = Unit {0}
