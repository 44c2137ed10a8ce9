-- A counter that sessions share: a number up to 1,000.
use Rattle.std.specs.Prelude.{ℕ, ◌+◌, nat_le, Option, None, Some, Bool, if◌then◌else◌}
use Rattle.txg_core.specs.Rules.{Rules}
use Rattle.txg_core.specs.declared.object.Kind.{Kind}
use Rattle.txg_core.specs.declared.object.Kind.TheVariants.{Change, Query}
use Rattle.shared_pool_tests.specs.declared.counter.Request.{Request}
use Rattle.shared_pool_tests.specs.declared.counter.Request.TheVariants.{Add, Ask}

-- so much may be added
abbrev pub has_room : ℕ → ℕ → Bool
has_room value n = nat_le (value + n) 1000

-- the number after the request, which is its reply too
abbrev pub after_request : ℕ → Request → ℕ
after_request value (Add n) = if has_room value n then value + n else value
after_request value Ask = value

abbrev pub request_does : ℕ → Request → ℕ → ℕ × ℕ
request_does value request group = (after_request value request, after_request value request)

abbrev pub request_check : ℕ → Request → Option ℕ
request_check value (Add n) = if has_room value n then None else Some value
request_check value Ask = None

abbrev pub request_kind : Request → Kind
request_kind (Add n) = Change
request_kind Ask = Query

abbrev pub request_rules : Rules ℕ Request ℕ
request_rules = record { does = request_does; check = request_check; kind = request_kind }
