-- The laws of a pool as an object: a refusal is what doing the call gives, and a query leaves the tree.
use Rattle.std.specs.Prelude.{◌≡◌, ℕ, ◌==◌, Bool, true, false, cond, Some, None, refl}
use Rattle.std.proofs.Common.{ap}
use Rattle.zp_names.specs.declared.verdict.Verdict.{Verdict}
use Rattle.zp_tree.specs.Tree.{Tree}
use Rattle.zp_tree.specs.Commands.{check_of, change_of}
use Rattle.txg_core.specs.Rules.{IsLawful}
use Rattle.txg_core.specs.declared.object.Kind.TheVariants.{Query}
use Rattle.zp_calls.specs.declared.call.Call.{Call}
use Rattle.zp_calls.specs.declared.call.Call.TheVariants as call
use Rattle.zp_calls.specs.declared.reply.Reply.{Reply}
use Rattle.zp_calls.specs.declared.reply.Reply.TheVariants as reply
use Rattle.pool_object.specs.Pool.{does, open_check, kind_of, pool_rules}

-- a refusing verdict is the reply, and nothing is changed
refused : (b : Bool) (v : Verdict) (t u : Tree) (r : Reply) → cond b None (Some (reply.Errno v)) ≡ Some r → ◌≡◌ {A = Reply × Tree} (reply.Errno v, cond b u t) (r, t)
refused true v t u r e = cc
refused false v t u r e = let same : reply.Errno v ≡ r = cc in ap (λ (x : Reply). (x, t)) same

refuses : (now : ℕ) (t : Tree) (c : Call) (r : Reply) → open_check t c ≡ Some r → (group : ℕ) → does now t c group ≡ (r, t)
refuses now t (call.Command c) r e group = refused ((check_of t c).errno == 0) (check_of t c) t (change_of t c group now) r e
refuses now t (call.Query q) r e group = cc

asks : (now : ℕ) (t : Tree) (c : Call) → kind_of c ≡ Query → (group : ℕ) → does now t c group ≡ ((does now t c 0).0, t)
asks now t (call.Command c) e group = cc
asks now t (call.Query q) e group = refl

pub pool_lawful : (now : ℕ) → IsLawful (pool_rules now)
pool_lawful now = record { refusal = refuses now; query = asks now }
