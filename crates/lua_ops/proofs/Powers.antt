-- A power by the two parts of its exponent.
use Rattle.std.proofs.Common.{◌≡◌, ◌∙◌, ℕ, zero, suc, ◌*◌, ◌/◌, ◌%◌, ◌^◌, sym, ap}
use Rattle.std.proofs.lemmas.Nat.{pow-mod, pow-add, mul-mod, mul-mod_first}
use Rattle.std.proofs.Math.Nat.{div-add-mod, pow-zero, pow-suc, mul-zero, mul-suc}

power_of_power : (u k h : ℕ) → (u ^ k) ^ h ≡ u ^ (k * h)
power_of_power u k zero = pow-zero (u ^ k) ∙ sym (pow-zero u) ∙ ap (λ x. u ^ x) (sym (mul-zero k))
power_of_power u k (suc h) = pow-suc (u ^ k) h ∙ ap (λ x. x * u ^ k) (power_of_power u k h) ∙ sym (pow-add u (k * h) k) ∙ ap (λ x. u ^ x) (sym (mul-suc k h))

pub power_cut : (u e k m : ℕ) → ((u ^ k % m) ^ (e / k) % m) * (u ^ (e % k) % m) % m ≡ u ^ e % m
power_cut u e k m =
    sym (mul-mod ((u ^ k % m) ^ (e / k)) (u ^ (e % k)) m)
    ∙ sym (mul-mod_first ((u ^ k % m) ^ (e / k)) (u ^ (e % k)) m)
    ∙ ap (λ x. x * u ^ (e % k) % m) (pow-mod (u ^ k) (e / k) m)
    ∙ mul-mod_first ((u ^ k) ^ (e / k)) (u ^ (e % k)) m
    ∙ ap (λ x. x * u ^ (e % k) % m) (power_of_power u k (e / k))
    ∙ ap (λ x. x % m) (sym (pow-add u (k * (e / k)) (e % k)))
    ∙ ap (λ x. u ^ x % m) (div-add-mod e k)
