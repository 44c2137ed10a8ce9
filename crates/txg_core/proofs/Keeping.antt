-- What doing calls keeps of worlds and gives of replies.
use Rattle.std.proofs.Common.{◌≡◌, ℕ, ◌++◌, ◌==◌, List, [], ◌∷◌, true, false, Bool, if◌then◌else◌, is_some, Option, Some, None, All}
use Rattle.std.specs.List.{AllByRecursion}
use Rattle.std.proofs.lemmas.List.Elements.{All-append, All-cons, All-nil, All-take}
use Rattle.txg_core.specs.Rules.{Origin}
use Rattle.txg_core.specs.History.{Hold, Check, Enqueue, Read, Sync, Take, Entry, Call, Group}
use Rattle.txg_core.specs.Serial.{Decision, outcome, world_after, after_option, serial, next, world, replies_of, given}
use Rattle.txg_core.specs.Calls.{CarriesCalls}
use Rattle.txg_core.specs.Laws.{AllCalls, KeepsWorlds, GivesReplies}

-- each decision is of a call with this property
abbrev AllDecided : {C : Type 0} → (C → Type 0) → List (Decision C) → Type 0
AllDecided IsCall ds = AllByRecursion (λ d. IsCall d.call) ds

decided-check : {C : Type 0} (IsCall : C → Type 0) (b : Bool) (d : Decision C) (ds : List (Decision C)) → IsCall d.call → AllDecided IsCall ds → AllDecided IsCall (after_option (if b then Some d else None) ds)
decided-check IsCall true d ds is before = (is, before)
decided-check IsCall false d ds is before = before

decided-calls : {W C R : Type 0} (o : Origin W C R) (IsCall : C → Type 0) (h : List (Entry C)) → AllCalls IsCall h → AllDecided IsCall (serial o h)
decided-calls o IsCall [] all = tt
decided-calls o IsCall (Call Hold s c ∷ h) all = decided-calls o IsCall h all.1
decided-calls o IsCall (Call Check s c ∷ h) all = decided-check IsCall (is_some (o.rules.check (world o h) c)) _ (serial o h) all.0 (decided-calls o IsCall h all.1)
decided-calls o IsCall (Call Enqueue s c ∷ h) all = decided-calls o IsCall h all.1
decided-calls o IsCall (Call Read s c ∷ h) all = (all.0, decided-calls o IsCall h all.1)
decided-calls o IsCall (Call Sync s c ∷ h) all = (all.0, decided-calls o IsCall h all.1)
decided-calls o IsCall (Call Take s c ∷ h) all = decided-calls o IsCall h all.1
decided-calls o IsCall (Group k ∷ h) all = decided-calls o IsCall h all

world-kept : {W C R : Type 0} (o : Origin W C R) (IsCall : C → Type 0) (IsWorld : W → Type 0) (ds : List (Decision C)) → KeepsWorlds o.rules IsCall IsWorld → IsWorld o.world → AllDecided IsCall ds → IsWorld (world_after o ds)
world-kept o IsCall IsWorld [] keeps first all = first
world-kept o IsCall IsWorld (d ∷ ds) keeps first all = keeps (world_after o ds) d.call d.txg all.0 (world-kept o IsCall IsWorld ds keeps first all.1)

replies-kept : {W C R : Type 0} (o : Origin W C R) (IsCall : C → Type 0) (IsWorld : W → Type 0) (IsReply : R → Type 0) (ds : List (Decision C)) (s : ℕ) → KeepsWorlds o.rules IsCall IsWorld → GivesReplies o.rules IsCall IsWorld IsReply → IsWorld o.world → AllDecided IsCall ds → All IsReply (replies_of o ds s)
replies-kept o IsCall IsWorld IsReply [] s keeps gives first all = All-nil IsReply
replies-kept {R = R} o IsCall IsWorld IsReply (d ∷ ds) s keeps gives first all = either (d.session == s) (replies-kept o IsCall IsWorld IsReply ds s keeps gives first all.1) (gives (world_after o ds) d.call d.txg all.0 (world-kept o IsCall IsWorld ds keeps first all.1))
  where
    reply : R
    reply = (outcome o.rules (world_after o ds) d).0

    either : (b : Bool) → All IsReply (replies_of o ds s) → IsReply reply → All IsReply (if b then replies_of o ds s ++ reply ∷ [] else replies_of o ds s)
    either true before is = All-append IsReply (replies_of o ds s) (reply ∷ []) before (All-cons IsReply reply [] is (All-nil IsReply))
    either false before is = before

pub kept-world : {W C R : Type 0} (o : Origin W C R) (IsCall : C → Type 0) (IsWorld : W → Type 0) (h : List (Entry C)) → KeepsWorlds o.rules IsCall IsWorld → IsWorld o.world → AllCalls IsCall h → IsWorld (world o h)
kept-world o IsCall IsWorld h keeps first all = world-kept o IsCall IsWorld (serial o h) keeps first (decided-calls o IsCall h all)

pub kept-decided : {W C R : Type 0} (o : Origin W C R) (IsCall : C → Type 0) (IsWorld : W → Type 0) (IsReply : R → Type 0) (h : List (Entry C)) (s : ℕ) → KeepsWorlds o.rules IsCall IsWorld → GivesReplies o.rules IsCall IsWorld IsReply → IsWorld o.world → AllCalls IsCall h → All IsReply (replies_of o (serial o h) s)
kept-decided o IsCall IsWorld IsReply h s keeps gives first all = replies-kept o IsCall IsWorld IsReply (serial o h) s keeps gives first (decided-calls o IsCall h all)

pub kept-given : {W C R : Type 0} (o : Origin W C R) (IsCall : C → Type 0) (IsWorld : W → Type 0) (IsReply : R → Type 0) (h : List (Entry C)) (s : ℕ) → KeepsWorlds o.rules IsCall IsWorld → GivesReplies o.rules IsCall IsWorld IsReply → IsWorld o.world → AllCalls IsCall h → All IsReply (given o h s)
kept-given o IsCall IsWorld IsReply h s keeps gives first all = All-take IsReply (next o h s) (replies_of o (serial o h) s) (kept-decided o IsCall IsWorld IsReply h s keeps gives first all)

pub calls-kept : {W C R : Type 0} (o : Origin W C R) (calls : ℕ → ℕ → Option C) (IsCall : C → Type 0) (h : List (Entry C)) → CarriesCalls o calls h → ((s n : ℕ) (c : C) → calls s n ≡ Some c → IsCall c) → AllCalls IsCall h
calls-kept o calls IsCall [] carries each = tt
calls-kept o calls IsCall (Call k s c ∷ h) carries each = (each s (next o h s) c carries.0, calls-kept o calls IsCall h carries.1 each)
calls-kept o calls IsCall (Group k ∷ h) carries each = calls-kept o calls IsCall h carries each
