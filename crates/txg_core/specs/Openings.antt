-- Where histories begin, as data.
use Rattle.txg_core.specs.Rules.{Meaning, Origin, origin_of}
use Rattle.txg_core.specs.declared.origin.Opening.{Opening}

-- the origin of the histories of a core that is made of this object, for sessions with these numbers of calls
abbrev pub origin_at : {O W C R : Type 0} → (O → Meaning W C R) → Opening O → Origin W C R
origin_at means opening = origin_of (means opening.object) opening.counts
