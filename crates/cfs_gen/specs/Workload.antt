-- The script of a workload: callers, what they open, their requests, and the end.
use Rattle.std.specs.Prelude.{ℕ, zero, suc, ◌+◌, ◌*◌, ◌%◌, Bool, true, false, List, [], ◌∷◌, ◌++◌, replicate, if◌then◌else◌}
use Rattle.std.specs.List.{flat_map}
use Rattle.cfs_words.specs.declared.flags.Flags.{Flags}
use Rattle.cfs_script.specs.declared.form.Form.{Form}
use Rattle.cfs_script.specs.declared.form.Form.TheVariants as forms
use Rattle.cfs_gen.specs.declared.drawn.Drawn.{Drawn}
use Rattle.cfs_gen.specs.declared.kind.Kind.{Kind}
use Rattle.cfs_gen.specs.declared.kind.Kind.TheVariants.{Write, Read, Sync}
use Rattle.cfs_gen.specs.Draws.{state_after, drawn_from}
use Rattle.cfs_gen.specs.Kinds.{kind_at}

abbrev pub all_callers : List ℕ
all_callers = 1 ∷ 2 ∷ 3 ∷ 4 ∷ 5 ∷ 6 ∷ 7 ∷ 8 ∷ []

-- each caller has user and group 0
abbrev pub introduced : ℕ → List Form
introduced caller = forms.Caller caller 0 0 ∷ []

-- ---- files

-- the path of the one name `g` with a digit
abbrev pub file_path : ℕ → List (List ℕ)
file_path file = (103 ∷ (48 + file) ∷ []) ∷ []

-- `rwc`
abbrev pub file_flags : Flags
file_flags = record { read = true; write = true; create = true; exclusive = false; append = false }

-- with mode 0644
abbrev pub file_opened : ℕ → ℕ → Form
file_opened caller file = forms.Open caller (file_path file) file_flags 420

-- a caller opens the file of its number and then file 0, so its descriptors are 0 and 1
abbrev pub opened : ℕ → List Form
opened caller = file_opened caller caller ∷ file_opened caller 0 ∷ []

abbrev pub closed : ℕ → List Form
closed caller = forms.Close caller 0 ∷ forms.Close caller 1 ∷ []

-- ---- requests

-- what a request asks for; the bytes of caller C are all 64 + C
abbrev pub form_asked : Kind → ℕ → Drawn → Form
form_asked Write caller drawn =
    forms.Pwrite caller drawn.fd drawn.offset (replicate drawn.length (64 + caller))
form_asked Read caller drawn = forms.Pread caller drawn.fd drawn.offset drawn.length
form_asked Sync caller drawn = forms.Fsync caller drawn.fd

-- the request of this number, from 0 on, and the turn behind it
abbrev pub request_forms : ℕ → Drawn → List Form
request_forms index drawn =
    form_asked (kind_at index) (1 + index % 8) drawn
    ∷ (if drawn.has_turn then forms.Turn ∷ [] else [])

-- the requests of a seed below this number; each draws four times
unfoldable pub requests_below : ℕ → ℕ → List Form
requests_below seed zero = []
requests_below seed (suc index) =
    requests_below seed index ++ request_forms index (drawn_from (state_after seed (4 * index)))

-- ---- all

unfoldable pub workload : ℕ → ℕ → List Form
workload number count =
    flat_map introduced all_callers ++ (flat_map opened all_callers
    ++ (requests_below number count ++ (forms.Drain ∷ flat_map closed all_callers)))
