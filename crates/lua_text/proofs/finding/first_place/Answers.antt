use Rattle.std.proofs.Common.{rules, subst, Some, None}
use Rattle.memchr.specs.Find.{FindsNeedle}
use Rattle.lua_text.proofs.Finds.{place, no_place, no_place_past, up_to_end}
use Rattle.lua_text.proofs.finding.first_place.Goals as goal

pub returns-then-is_past : goal.returns-then-is_past
returns-then-is_past c = no_place_past c.args.text.now c.args.wanted.now c.args.from c.from_front-first.result (search rules) (search rules)

pub returns-in-Some : goal.returns-in-Some
returns-in-Some c = place c.args.text.now c.args.wanted.now c.args.from _ c.bytes_before-before.result c.in-Some.place (search rules) (search rules) (search rules) c.bytes_before-before.ensures.places (subst (λ h. FindsNeedle h c.args.wanted.now 0 (Some c.in-Some.place)) (up_to_end c.args.text.now c.bytes_before-before.result) c.in-Some.ensures)

pub returns-in-None : goal.returns-in-None
returns-in-None c = no_place c.args.text.now c.args.wanted.now c.args.from _ c.bytes_before-before.result (search rules) (search rules) (search rules) c.bytes_before-before.ensures.places (subst (λ h. FindsNeedle h c.args.wanted.now 0 None) (up_to_end c.args.text.now c.bytes_before-before.result) c.in-None.ensures)
