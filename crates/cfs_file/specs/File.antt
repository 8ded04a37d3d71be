-- What a file is, what a request does to it, and what it answers.
use Rattle.std.specs.Prelude.{ℕ, ◌+◌, ◌-◌, ◌≤◌, List, ◌++◌, length, take, drop, replicate}
use Rattle.cfs_file.specs.declared.sizes.TheConstants.{LONGEST_FILE}
use Rattle.cfs_file.specs.declared.request.Request.{Request}
use Rattle.cfs_file.specs.declared.request.Request.TheVariants as requests
use Rattle.cfs_file.specs.declared.answer.Answer.{Answer}
use Rattle.cfs_file.specs.declared.answer.Answer.TheVariants as answers

-- a file is a list of at most 1,048,576 bytes
abbrev pub IsFile : List ℕ → Type 0
IsFile bytes = length bytes ≤ LONGEST_FILE

-- the first n bytes, filled with zero bytes up to n
abbrev pub resized : List ℕ → ℕ → List ℕ
resized file n = take n file ++ replicate (n - length file) 0

-- the file with these bytes from the offset on; a gap before them is zero bytes
abbrev pub put : List ℕ → ℕ → List ℕ → List ℕ
put file offset bytes = resized file offset ++ bytes ++ drop (offset + length bytes) file

-- the file after a request
abbrev pub effect : List ℕ → Request → List ℕ
effect file (requests.Write offset bytes) = put file offset bytes
effect file (requests.Append bytes) = put file (length file) bytes
effect file (requests.Truncate n) = resized file n
effect file (requests.Read offset count) = file
effect file requests.Sync = file

-- what a request answers on a file
abbrev pub answer : List ℕ → Request → Answer
answer file (requests.Write offset bytes) = answers.Wrote offset (length bytes)
answer file (requests.Append bytes) = answers.Wrote (length file) (length bytes)
answer file (requests.Truncate n) = answers.Done
answer file (requests.Read offset count) = answers.Got (take count (drop offset file))
answer file requests.Sync = answers.Done
