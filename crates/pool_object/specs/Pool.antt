-- What doing a call on a pool means: the reply, and the tree afterwards.
-- Source: dsl_synctask.c: a task is checked again while syncing, and no change comes between this check and its own.
use Rattle.std.specs.Prelude.{ℕ, ◌==◌, Option, Some, None, if◌then◌else◌}
use Rattle.zp_names.specs.declared.command.Command.{Command}
use Rattle.zp_names.specs.declared.verdict.Verdict.{Verdict}
use Rattle.zp_tree.specs.Tree.{Tree}
use Rattle.zp_tree.specs.Commands.{check_of, change_of}
use Rattle.txg_core.specs.Rules.{Rules, Meaning}
use Rattle.txg_core.specs.declared.object.Kind.{Kind}
use Rattle.txg_core.specs.declared.object.Kind.TheVariants.{Change, Query as ask}
use Rattle.zp_calls.specs.declared.call.Call.{Call}
use Rattle.zp_calls.specs.declared.call.Call.TheVariants as call
use Rattle.zp_calls.specs.declared.reply.Reply.{Reply}
use Rattle.zp_calls.specs.declared.reply.Reply.TheVariants as reply
use Rattle.zcp_read.specs.Answers.{answer_of}

-- the tree after a command that has this verdict
abbrev pub tree_after : ℕ → Tree → Verdict → Command → ℕ → Tree
tree_after now t v c group = if v.errno == 0 then change_of t c group now else t

-- doing a call in a transaction group, at a moment: a command is its check, and its change where the errno is 0; a query
-- is answered and leaves the tree
abbrev pub does : ℕ → Tree → Call → ℕ → Reply × Tree
does now t (call.Command c) group = (reply.Errno (check_of t c), tree_after now t (check_of t c) c group)
does now t (call.Query q) group = (answer_of t q, t)

abbrev pub refusal_of : Verdict → Option Reply
refusal_of v = if v.errno == 0 then None else Some (reply.Errno v)

-- the open check: a reply exactly where the verdict is nonzero
abbrev pub open_check : Tree → Call → Option Reply
open_check t (call.Command c) = refusal_of (check_of t c)
open_check t (call.Query q) = None

abbrev pub kind_of : Call → Kind
kind_of (call.Command c) = Change
kind_of (call.Query q) = ask

-- the rules of a pool in which it is this moment
abbrev pub pool_rules : ℕ → Rules Tree Call Reply
pool_rules now = record { does = does now; check = open_check; kind = kind_of }

-- a pool as contracts see it: its tree, and the moment in seconds
pub record PoolState (T : Type 0) : Type 0 where
  pub tree : T
  pub moment : ℕ

-- what a pool with this tree is as an object
abbrev pub pool_means : {T : Type 0} → (T → Tree) → PoolState T → Meaning Tree Call Reply
pool_means tree pool = record { rules = pool_rules pool.moment; world = tree pool.tree }
