use Rattle.std.proofs.Common.{◌∙◌, bytes_eq, ap}
use Rattle.std.specs.List.{list_any}
use Rattle.zp_checks.proofs.Naming.{any-named}
use Rattle.zp_checks.proofs.short_names.ShortNames.contains.Goals as goal

pub returns : goal.returns
returns c = c.contains.ensures ∙ any-named c.args.name.now c.self.inside.names.keys ∙ ap (list_any (bytes_eq c.args.name.now)) c.self.view_is
