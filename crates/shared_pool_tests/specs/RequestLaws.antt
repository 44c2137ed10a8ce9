-- The laws of the counter.
use Rattle.std.proofs.Common.{◌≡◌, ℕ, ◌+◌, Bool, true, false, Option, Some, None, if◌then◌else◌, refl, ap}
use Rattle.txg_core.specs.Rules.{IsLawful}
use Rattle.txg_core.specs.declared.object.Kind.TheVariants.{Query}
use Rattle.shared_pool_tests.specs.declared.counter.Request.{Request}
use Rattle.shared_pool_tests.specs.declared.counter.Request.TheVariants.{Add, Ask}
use Rattle.shared_pool_tests.specs.Requests.{has_room, request_does, request_check, request_kind, request_rules}

full : (room : Bool) (value sum reply : ℕ) → (if room then None else Some value) ≡ Some reply → ◌≡◌ {A = ℕ × ℕ} (if room then sum else value, if room then sum else value) (reply, value)
full true value sum reply e = absurd (cc)
full false value sum reply e = let same : value ≡ reply = cc in ap (λ (m : ℕ). (m, value)) same

refusal : (value : ℕ) (request : Request) (reply : ℕ) → request_check value request ≡ Some reply → (group : ℕ) → request_does value request group ≡ (reply, value)
refusal value (Add n) reply e group = full (has_room value n) value (value + n) reply e
refusal value Ask reply e group = absurd (cc)

query : (value : ℕ) (request : Request) → request_kind request ≡ Query → (group : ℕ) → request_does value request group ≡ ((request_does value request 0).0, value)
query value (Add n) e group = absurd (cc)
query value Ask e group = refl

pub request_lawful : IsLawful request_rules
request_lawful = record { refusal = refusal; query = query }
