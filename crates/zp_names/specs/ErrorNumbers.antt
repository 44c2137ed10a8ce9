-- The error numbers of Linux that a check answers: errno(3); their names are globals of zfs-program(8).
use Rattle.std.specs.Prelude.{ℕ}

-- no such dataset
abbrev pub enoent : ℕ
enoent = 2

-- in use
abbrev pub ebusy : ℕ
ebusy = 16

-- there already
abbrev pub eexist : ℕ
eexist = 17

-- the command doesn't fit what it names
abbrev pub einval : ℕ
einval = 22

-- a limit would be passed
abbrev pub enospc : ℕ
enospc = 28

-- a name would be too long, or too deep
abbrev pub enametoolong : ℕ
enametoolong = 36

-- no such reference
abbrev pub esrch : ℕ
esrch = 3

-- a value is too long
abbrev pub e2big : ℕ
e2big = 7

-- the dataset can't be written
abbrev pub erofs : ℕ
erofs = 30
