-- A list with one more note, and one that stays.
use Rattle.std.proofs.Common.{◌≡◌, ℕ, All, List, [], ◌∷◌, ◌++◌, map, refl, sym, ap, ◌∙◌, set, get_or-set_other}
use Rattle.std.proofs.lemmas.List.{append-nil, map-append}
use Rattle.std.proofs.lemmas.List.Elements.{All-cons, All-nil}
use Rattle.cfs_lock.specs.Log.{Entry, Grows}
use Rattle.cfs_fake.specs.declared.listed.Listed.{Listed}
use Rattle.cfs_fake.specs.declared.listed.Note.{Note}
use Rattle.cfs_fake.specs.Listed.{entry_of, log_of, marked, part_of}

pub stayed : (by : ℕ) (x y : Listed) → y.notes.items ≡ x.notes.items → y.marks ≡ x.marks → Grows log_of part_of by x y
stayed by x y e e' = record {
  added = [];
  longer = ap (map entry_of) e ∙ sym (append-nil (log_of x));
  by_it = All-nil (λ (entry : Entry). entry.0 ≡ by);
  parts = λ n ne. ap (λ marks. part_of (record x { marks = marks }) n) e';
}

pub grew : (by word : ℕ) (x y : Listed) → y.notes.items ≡ x.notes.items ++ record { by = by; word = word } ∷ [] → y.marks ≡ set x.marks by word → Grows log_of part_of by x y
grew by word x y e e' = let note : Note = record { by = by; word = word } in record {
  added = entry_of note ∷ [];
  longer = ap (map entry_of) e ∙ map-append entry_of x.notes.items (note ∷ []);
  by_it = All-cons (λ (entry : Entry). entry.0 ≡ by) (entry_of note) [] refl (All-nil (λ (entry : Entry). entry.0 ≡ by));
  parts = λ n ne. ap (λ marks. part_of (record x { marks = marks }) n) e' ∙ ap marked (get_or-set_other x.marks by n word 0 ne);
}
