-- What a crash picks, word by word: a linear congruential generator with Knuth's constants for
-- MMIX.
use Rattle.std.specs.Prelude.{Bool, ℕ, ◌+◌, ◌*◌, ◌/◌, ◌%◌, ◌^◌, ◌==◌, List, [], ◌∷◌, if◌then◌else◌}
use Rattle.cfs_pmem.specs.declared.pick.Pick.{Pick}
use Rattle.cfs_pmem.specs.declared.pick.Pick.TheVariants.{Durable, Present, Drawn}

-- the state of the generator after one draw, and the number drawn
abbrev pub next_state : ℕ → ℕ
next_state state = (state * 6364136223846793005 + 1442695040888963407) % 2 ^ 64

abbrev pub draw_of : ℕ → ℕ
draw_of state = next_state state / 2 ^ 33

-- pick 0 leaves what is durable, pick 1 what is present, and each other number seeds the generator
abbrev pub pick_of : ℕ → Pick
pick_of k = if k == 0 then Durable else (if k == 1 then Present else Drawn k)

-- the word that a crash leaves of a durable and a present one: where they differ, an even draw
-- leaves the durable one
abbrev pub word_left : Pick → ℕ → ℕ → ℕ
word_left Durable durable present = durable
word_left Present durable present = present
word_left (Drawn state) durable present =
    if durable == present then present else (if draw_of state % 2 == 0 then durable else present)

-- the pick behind that word: a draw was made where the two differ
abbrev pub after_word : Pick → ℕ → ℕ → Pick
after_word Durable durable present = Durable
after_word Present durable present = Present
after_word (Drawn state) durable present =
    if durable == present then Drawn state else Drawn (next_state state)

-- The same of a byte: where it was in a written range it draws, whatever its two values are, and
-- the draw is the byte.
abbrev pub byte_left : Bool → Pick → ℕ → ℕ → ℕ
byte_left written Durable durable present = durable
byte_left written Present durable present = present
byte_left written (Drawn state) durable present = if written then draw_of state % 256 else present

abbrev pub after_byte : Bool → Pick → ℕ → ℕ → Pick
after_byte written Durable durable present = Durable
after_byte written Present durable present = Present
after_byte written (Drawn state) durable present =
    if written then Drawn (next_state state) else Drawn state

-- What a crash leaves of a durable and a present copy from place k on, place by place in order:
-- `left` says what it leaves at a place, and `next` which pick stands behind it.
abbrev pub each_left : (ℕ → Pick → ℕ → ℕ → ℕ) → (ℕ → Pick → ℕ → ℕ → Pick) → Pick → ℕ → List ℕ
    → List ℕ → List ℕ
each_left left next pick k [] presents = []
each_left left next pick k (durable ∷ durables) [] = []
each_left left next pick k (durable ∷ durables) (present ∷ presents) =
    left k pick durable present
    ∷ each_left left next (next k pick durable present) (k + 1) durables presents

abbrev pub after_each : (ℕ → Pick → ℕ → ℕ → Pick) → Pick → ℕ → List ℕ → List ℕ → Pick
after_each next pick k [] presents = pick
after_each next pick k (durable ∷ durables) [] = pick
after_each next pick k (durable ∷ durables) (present ∷ presents) =
    after_each next (next k pick durable present) (k + 1) durables presents

-- the words that a crash leaves of durable and present ones, and the pick behind them
abbrev pub words_left : Pick → List ℕ → List ℕ → List ℕ
words_left pick durables presents =
    each_left (λ k. word_left) (λ k. after_word) pick 0 durables presents

abbrev pub after_words : Pick → List ℕ → List ℕ → Pick
after_words pick durables presents = after_each (λ k. after_word) pick 0 durables presents
