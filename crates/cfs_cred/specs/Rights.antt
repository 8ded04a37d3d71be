-- File access permissions, after POSIX.1-2017, Base Definitions, section 4.5.
use Rattle.std.specs.Prelude.{ℕ, Bool, true, ◌/◌, ◌%◌, ◌==◌, if◌then◌else◌}
use Rattle.cfs_cred.specs.declared.credential.Credential.{Credential}
use Rattle.cfs_cred.specs.declared.want.Want.{Want}
use Rattle.cfs_cred.specs.declared.want.Want.TheVariants.{Read, Write, Search}

-- the three octal digits of a mode, as in 0754
abbrev pub owner_digit : ℕ → ℕ
owner_digit mode = mode / 64 % 8

abbrev pub group_digit : ℕ → ℕ
group_digit mode = mode / 8 % 8

abbrev pub other_digit : ℕ → ℕ
other_digit mode = mode % 8

-- whether an octal digit grants a right: read counts 4 in it, write 2 and search 1
abbrev pub grants : ℕ → Want → Bool
grants digit Read = digit / 4 % 2 == 1
grants digit Write = digit / 2 % 2 == 1
grants digit Search = digit % 2 == 1

-- the one digit that decides for a user who is not the superuser: the first class that the
-- user is in
abbrev pub deciding_digit : ℕ → ℕ → ℕ → Credential → ℕ
deciding_digit mode uid gid credential =
    if credential.uid == uid then owner_digit mode
    else (if credential.gid == gid then group_digit mode else other_digit mode)

-- whether a user has a right on a file of this mode, owner and group; user 0 has every right
abbrev pub is_allowed : ℕ → ℕ → ℕ → Credential → Want → Bool
is_allowed mode uid gid credential want =
    if credential.uid == 0 then true else grants (deciding_digit mode uid gid credential) want
