-- What a program has used of its two limits: instructions and bytes of memory (zfs-program(8)).
use Rattle.std.specs.Prelude.{ℕ, ◌+◌, ◌==◌, Bool, nat_lt, ◌≤◌}

-- the greatest limits: 100,000,000 instructions and 100 MiB
abbrev pub greatest_instructions : ℕ
greatest_instructions = 100000000

abbrev pub greatest_bytes : ℕ
greatest_bytes = 104857600

pub record Used : Type 0 where
  pub instructions : ℕ
  pub bytes : ℕ
  pub most_instructions : ℕ
  pub most_bytes : ℕ

-- nothing used yet, under these limits
abbrev pub unused : (instructions bytes : ℕ) → Used
unused i b = record { instructions = 0; bytes = 0; most_instructions = i; most_bytes = b }

-- the instructions are at their limit, so that no further one is made
abbrev pub is_spent : Used → Bool
is_spent u = u.instructions == u.most_instructions

-- one instruction more
abbrev pub ticked : Used → Used
ticked u = record u { instructions = u.instructions + 1 }

-- n bytes more, as whole numbers, would pass the limit
abbrev pub is_over : (n : ℕ) → Used → Bool
is_over n u = nat_lt u.most_bytes (u.bytes + n)

-- n bytes more
abbrev pub charged : (n : ℕ) → Used → Used
charged n u = record u { bytes = u.bytes + n }

-- a limit that a program may be given
pub record IsLimit (greatest n : ℕ) : Type 0 where
  pub least : 1 ≤ n
  pub most : n ≤ greatest

-- no limit is passed
pub record IsWithin (u : Used) : Type 0 where
  pub instructions : u.instructions ≤ u.most_instructions
  pub bytes : u.bytes ≤ u.most_bytes

-- the limits are no greater than the greatest
pub record HasLimits (u : Used) : Type 0 where
  pub instructions : u.most_instructions ≤ greatest_instructions
  pub bytes : u.most_bytes ≤ greatest_bytes
