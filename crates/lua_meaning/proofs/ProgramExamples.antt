-- Whole programs, and where a stop falls. Before each example stands its text.
use Rattle.std.specs.Prelude.{◌≡◌, refl, pos, false, [], ◌∷◌, codes}
use Rattle.std.specs.Fmt.{digits}
use Rattle.std.specs.Int.{int_wrap}
use Rattle.zc_budget.specs.declared.budget.Stop.TheVariants as stop
use Rattle.lua_ast.specs.Tree.{Tree, CallStat, Name, Index, Call}
use Rattle.lua_meaning.specs.declared.value.Value.TheVariants as value
use Rattle.lua_meaning.specs.Nodes.{eval, statements, each_first, expressions, targets_of, target_of, choose, maybe_eval, step_of, each_field, all_fields}
use Rattle.lua_meaning.specs.Programs.{jobs, resume}
use Rattle.lua_meaning.proofs.Writing.{parts, int, text, global, dot, call, block, does, gives}
use Rattle.lua_meaning.proofs.SampleHost.{run, Answers, Fails, Ends}

-- What the examples compute with.
computing : Unit {0}
unfolding eval statements each_first expressions targets_of target_of choose maybe_eval step_of each_field all_fields jobs resume digits int_wrap
computing = tt

-- zfs.sync.snapshot("rpool/a@s") return 1
abbrev snapshot_and_return_tree : Tree
snapshot_and_return_tree = block (does (call (dot (dot (global "zfs") "sync") "snapshot") (text "rpool/a@s" ∷ [])) ∷ gives (int 1 ∷ []) ∷ [])

snapshot_and_return : run [] [] snapshot_and_return_tree 12 10000 ≡ Answers (value.Int (pos 1) ∷ []) 12 64 ((codes "rpool/a@s") ∷ [])
unfolding computing
snapshot_and_return = refl

-- zfs.sync.snapshot("rpool/a@s") return 1
abbrev stops_after_the_snapshot_tree : Tree
stops_after_the_snapshot_tree = block (does (call (dot (dot (global "zfs") "sync") "snapshot") (text "rpool/a@s" ∷ [])) ∷ gives (int 1 ∷ []) ∷ [])

stops_after_the_snapshot : run [] [] stops_after_the_snapshot_tree 11 10000 ≡ Ends stop.Instructions 11 64 ((codes "rpool/a@s") ∷ [])
unfolding computing
stops_after_the_snapshot = refl

-- zfs.sync.snapshot("rpool/a@s") return 1
abbrev stops_before_the_snapshot_tree : Tree
stops_before_the_snapshot_tree = block (does (call (dot (dot (global "zfs") "sync") "snapshot") (text "rpool/a@s" ∷ [])) ∷ gives (int 1 ∷ []) ∷ [])

stops_before_the_snapshot : run [] [] stops_before_the_snapshot_tree 9 10000 ≡ Ends stop.Instructions 9 64 []
unfolding computing
stops_before_the_snapshot = refl

-- zfs.sync.snapshot("rpool/a@s1")
-- zfs.sync.snapshot("rpool/a@s2")
-- error("x")
abbrev two_snapshots_and_an_error_tree : Tree
two_snapshots_and_an_error_tree = block
    (does (call (dot (dot (global "zfs") "sync") "snapshot") (text "rpool/a@s1" ∷ []))
    ∷ CallStat 0 2
    (Call 0 2
    (Index 0 2 (Index 0 2 (Name 0 2 (codes "zfs")) (text "sync")) (text "snapshot"))
    (parts (text "rpool/a@s2" ∷ [])))
    ∷ CallStat 0 3 (Call 0 3 (Name 0 3 (codes "error")) (parts (text "x" ∷ []))) ∷ [])

two_snapshots_and_an_error : run [] [] two_snapshots_and_an_error_tree 1000 10000 ≡ Fails (codes "[string \"channel program\"]:3: x") 24 119 ((codes "rpool/a@s1") ∷ (codes "rpool/a@s2") ∷ [])
unfolding computing
two_snapshots_and_an_error = refl

-- return pcall(f)
abbrev calls_nil_tree : Tree
calls_nil_tree = block (gives (call (global "pcall") (global "f" ∷ []) ∷ []) ∷ [])

calls_nil : run [] [] calls_nil_tree 1000 10000 ≡ Fails (codes "[string \"channel program\"]:1: attempt to call a nil value") 5 145 []
unfolding computing
calls_nil = refl

-- return zfs.exists("other/fs")
abbrev other_pool_tree : Tree
other_pool_tree = block (gives (call (dot (global "zfs") "exists") (text "other/fs" ∷ []) ∷ []) ∷ [])

other_pool : run [] [] other_pool_tree 1000 10000 ≡ Fails (codes "[string \"channel program\"]:1: dataset 'other/fs' is not in pool 'rpool'") 8 159 []
unfolding computing
other_pool = refl

-- return zfs.exists("rpool/none")
abbrev not_there_tree : Tree
not_there_tree = block (gives (call (dot (global "zfs") "exists") (text "rpool/none" ∷ []) ∷ []) ∷ [])

not_there : run [] [] not_there_tree 1000 10000 ≡ Answers (value.Bool false ∷ []) 8 64 []
unfolding computing
not_there = refl

--
abbrev nothing_tree : Tree
nothing_tree = block []

nothing : run [] [] nothing_tree 100000 100000 ≡ Answers [] 1 64 []
unfolding computing
nothing = refl

-- return
abbrev empty_return_tree : Tree
empty_return_tree = block (gives [] ∷ [])

empty_return : run [] [] empty_return_tree 100000 100000 ≡ Answers [] 2 64 []
unfolding computing
empty_return = refl
