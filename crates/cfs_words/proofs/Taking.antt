-- A value of each kind is read from the words that spell it, and from no others.
use Rattle.std.proofs.Common.{◌≡◌, ℕ, ◌+◌, ◌<◌, ◌≤◌, ◌⊎◌, inl, inr, Bool, true, false, cond, List, [], ◌∷◌, ◌++◌, length, Option, Some, None, arith, refl, sym, subst, ap, ◌∙◌, append_assoc}
use Rattle.std.specs.Prelude.{codes, ◌||◌, IsTrue}
use Rattle.std.specs.Fmt.{decimal}
use Rattle.std.specs.Str.{bytes_eq}
use Rattle.std.proofs.lemmas.Option.{cond_some, none-some, same_Some}
use Rattle.std.proofs.lemmas.Slice.Eq.{bytes_eq-Decides}
use Rattle.cfs_dir.specs.Path.{IsPathText, text_of}
use Rattle.cfs_words.specs.declared.flags.Flags.{Flags}
use Rattle.cfs_words.specs.declared.seek.Seek.{Seek}
use Rattle.cfs_words.specs.declared.seek.Seek.TheVariants.{To, On, Back}
use Rattle.cfs_words.specs.declared.device.Device.{Device}
use Rattle.cfs_words.specs.declared.device.Device.TheVariants as devices
use Rattle.cfs_words.specs.Values.{largest_number, mode_words, mode_text, flags_text, IsOpening, IsSeek, device_words, IsDevice}
use Rattle.cfs_words.specs.Spelling.{Kind, Key, Number, Path, Opening, Mode, Payload, Whence, Target, Value, IsValue, words_for, IsOther, Spells, Values, SpellAll}
use Rattle.cfs_words.specs.Reading.{◌>>=◌, number_of, path_of, flags_of, mode_of, payload_of, offset_of, word_at, key_at, number_at, path_at, mode_at, opened_at, opening_at, payload_at, whence_at, numbered_at, slot_at, target_at, value_at, end_of, read}
use Rattle.cfs_words.proofs.Numbers.{IsDecimal, number_of-takes, number_of-again}
use Rattle.cfs_words.proofs.Paths.{path_of-takes, path_of-again}
use Rattle.cfs_words.proofs.Payloads.{bind_some, payload_of-takes, payload_of-again}
use Rattle.cfs_words.proofs.Letters.{IsFlags, flags_of-takes, flags_of-again, IsMode, mode_of-takes, mode_of-again, offset_of-takes, offset_of-on, offset_of-back, offset_of-none}

-- words in front spell the value, and the rest is left
pub record Took (kind : Kind) (words : List (List ℕ)) (value : Value kind) (rest : List (List ℕ)) : Type 0 where
  pub front : List (List ℕ)
  pub parts : words ≡ front ++ rest
  pub spelled : Spells kind value front

-- one word was read by f
record One {X : Type 0} (f : List ℕ → Option X) (words : List (List ℕ)) (x : X) (rest : List (List ℕ)) : Type 0 where
  word : List ℕ
  parts : words ≡ word ∷ rest
  value : f word ≡ Some x

abbrev one_at : {X : Type 0} → (List ℕ → Option X) → List (List ℕ) → Option (X × List (List ℕ))
one_at f words = word_at words >>= (λ word. f word.0 >>= (λ x. Some (x, word.1)))

one_at-takes : {X : Type 0} (f : List ℕ → Option X) (words : List (List ℕ)) (r : X × List (List ℕ)) → one_at f words ≡ Some r → One f words r.0 r.1
one_at-takes f [] r e = absurd (none-some _ e)
one_at-takes {X} f (word ∷ words) r e =
    let found = bind_some (f word) (λ x. Some (x, words)) r e in
    subst (λ (p : X × List (List ℕ)). One f (word ∷ words) p.0 p.1) (same_Some _ _ found.2) (record { word = word; parts = refl; value = found.1 })

-- ---- keys and numbers

key_at-takes : (text : List ℕ) (words : List (List ℕ)) (r : Unit {0} × List (List ℕ)) → key_at text words ≡ Some r → words ≡ text ∷ r.1
unfolding key_at
key_at-takes text [] r e = absurd (none-some _ e)
key_at-takes text (word ∷ words) r e =
    let found = cond_some (bytes_eq word text) (tt, words) r e in
    let same : word ≡ text = (bytes_eq-Decides word text).0 found.0 in
    subst (λ (p : Unit {0} × List (List ℕ)). word ∷ words ≡ text ∷ p.1) found.1 (ap (λ (w : List ℕ). w ∷ words) same)

bytes_eq-same : (text : List ℕ) → bytes_eq text text ≡ true
bytes_eq-same text = (bytes_eq-Decides text text).1 refl

pub key_at-again : (text : List ℕ) (rest : List (List ℕ)) → key_at text (text ∷ rest) ≡ Some (tt, rest)
unfolding key_at
key_at-again text rest = rw (bytes_eq-same text) refl

pub number_at-takes : (least most : ℕ) (words : List (List ℕ)) (r : ℕ × List (List ℕ)) → number_at least most words ≡ Some r →
    (words ≡ decimal r.0 ∷ r.1) × (least ≤ r.0) × (r.0 ≤ most) × (r.0 ≤ largest_number)
unfolding number_at
number_at-takes least most words r e =
    let one = one_at-takes (number_of least most) words r e in
    let spelled = number_of-takes least most one.word r.0 one.value in
    (one.parts ∙ ap (λ (w : List ℕ). w ∷ r.1) spelled.text, spelled.low, spelled.high, spelled.small)

pub number_at-again : (least most n : ℕ) (rest : List (List ℕ)) → least ≤ n → n ≤ most → n ≤ largest_number → number_at least most (decimal n ∷ rest) ≡ Some (n, rest)
unfolding number_at
number_at-again least most n rest low high small = rw (number_of-again least most (decimal n) n (record { text = refl; low = low; high = high; small = small })) refl

-- ---- modes

mode_at-takes : (words : List (List ℕ)) (r : ℕ × List (List ℕ)) → mode_at words ≡ Some r → (words ≡ mode_text r.0 ∷ r.1) × (r.0 ≤ 511)
unfolding mode_at
mode_at-takes words r e =
    let one = one_at-takes mode_of words r e in
    let spelled = mode_of-takes one.word r.0 one.value in
    (one.parts ∙ ap (λ (w : List ℕ). w ∷ r.1) spelled.text, spelled.bits)

mode_at-again : (mode : ℕ) (rest : List (List ℕ)) → mode ≤ 511 → mode_at (mode_text mode ∷ rest) ≡ Some (mode, rest)
unfolding mode_at
mode_at-again mode rest h = rw (mode_of-again mode h) refl

opened_at-takes : (flags : Flags) (create : Bool) (words : List (List ℕ)) (r : (Flags × ℕ) × List (List ℕ)) → flags.create ≡ create → IsTrue (flags.read || flags.write) →
    opened_at flags create words ≡ Some r → (words ≡ mode_words create r.0.1 ++ r.1) × (r.0.0 ≡ flags) × IsOpening flags r.0.1
opened_at-takes flags false words r is access e =
    subst (λ (p : (Flags × ℕ) × List (List ℕ)). (words ≡ mode_words false p.0.1 ++ p.1) × (p.0.0 ≡ flags) × IsOpening flags p.0.1) (same_Some _ _ e)
    (refl, refl, record { access = access; bits = omega arith; unmade = λ _. refl })
opened_at-takes flags true words r is access e =
    let found = bind_some (mode_at words) (λ mode. Some ((flags, mode.0), mode.1)) r e in
    let spelled = mode_at-takes words found.0 found.1 in
    subst (λ (p : (Flags × ℕ) × List (List ℕ)). (words ≡ mode_words true p.0.1 ++ p.1) × (p.0.0 ≡ flags) × IsOpening flags p.0.1) (same_Some _ _ found.2)
    (spelled.0, refl, record { access = access; bits = spelled.1; unmade = λ not. absurd (let both = sym is ∙ not in cc) })

opened_at-again : (flags : Flags) (create : Bool) (mode : ℕ) (rest : List (List ℕ)) → flags.create ≡ create → IsOpening flags mode →
    opened_at flags create (mode_words create mode ++ rest) ≡ Some ((flags, mode), rest)
opened_at-again flags false mode rest is h = ap (λ (m : ℕ). Some ((flags, m), rest)) (sym (h.unmade is))
opened_at-again flags true mode rest is h = rw (mode_at-again mode rest h.bits) refl

-- ---- devices

device_one : (word : List ℕ) (make : ℕ → Device) (most : ℕ) (words : List (List ℕ)) (r : Device × List (List ℕ)) →
    ((n : ℕ) → device_words (make n) ≡ word ∷ decimal n ∷ []) → ((n : ℕ) → n ≤ most → n ≤ largest_number → IsDevice (make n)) →
    numbered_at make most words ≡ Some r → Took Target (word ∷ words) r.0 r.1
device_one word make most words r spelled bounded e =
    let found = bind_some (number_at 0 most words) (λ n. Some (make n.0, n.1)) r e in
    let number = number_at-takes 0 most words found.0 found.1 in
    subst (λ (p : Device × List (List ℕ)). Took Target (word ∷ words) p.0 p.1) (same_Some _ _ found.2)
    (record {
      front = word ∷ decimal found.0.0 ∷ [];
      parts = ap (λ (ws : List (List ℕ)). word ∷ ws) number.0;
      spelled = record { is_value = bounded found.0.0 number.2 number.3; are_words = inl (sym (spelled found.0.0)) };
    })

slot_at-takes : (words : List (List ℕ)) (r : Device × List (List ℕ)) → slot_at words ≡ Some r → Took Target (codes "slot" ∷ words) r.0 r.1
unfolding slot_at
slot_at-takes words r e =
    let q = bind_some (number_at 0 largest_number words) (λ queue. number_at 0 largest_number queue.1 >>= (λ number. Some (devices.Slot queue.0 number.0, number.1))) r e in
    let s = bind_some (number_at 0 largest_number q.0.1) (λ number. Some (devices.Slot q.0.0 number.0, number.1)) r q.2 in
    let first = number_at-takes 0 largest_number words q.0 q.1 in
    let second = number_at-takes 0 largest_number q.0.1 s.0 s.1 in
    subst (λ (p : Device × List (List ℕ)). Took Target (codes "slot" ∷ words) p.0 p.1) (same_Some _ _ s.2)
    (record {
      front = codes "slot" ∷ decimal q.0.0 ∷ decimal s.0.0 ∷ [];
      parts = ap (λ (ws : List (List ℕ)). codes "slot" ∷ ws) (first.0 ∙ ap (λ (ws : List (List ℕ)). decimal q.0.0 ∷ ws) second.0);
      spelled = record { is_value = (first.2, second.2); are_words = inl refl };
    })

-- one test of a chain of words: the word is the text, or the other tests are made
tested : {X : Type 0} (word text : List ℕ) (yes_ no_ : Option X) (r : X) (P : Type 0) → cond (bytes_eq word text) yes_ no_ ≡ Some r →
    (word ≡ text → yes_ ≡ Some r → P) → (no_ ≡ Some r → P) → P
tested word text yes_ no_ r P e whole other = chosen (bytes_eq word text) refl e where
  chosen : (b : Bool) → bytes_eq word text ≡ b → cond b yes_ no_ ≡ Some r → P
  chosen true is f = whole ((bytes_eq-Decides word text).0 is) f
  chosen false is f = other f

named_device : (word text : List ℕ) (words : List (List ℕ)) (r : Device × List (List ℕ)) → word ≡ text → Took Target (text ∷ words) r.0 r.1 → Took Target (word ∷ words) r.0 r.1
named_device word text words r is took = subst (λ (w : List ℕ). Took Target (w ∷ words) r.0 r.1) (sym is) took

target_at-takes : (words : List (List ℕ)) (r : Device × List (List ℕ)) → target_at words ≡ Some r → Took Target words r.0 r.1
unfolding target_at
target_at-takes [] r e = absurd (none-some _ e)
target_at-takes (word ∷ words) r e =
    tested word (codes "selector") _ _ r (Took Target (word ∷ words) r.0 r.1) e
    (λ is f. subst (λ (p : Device × List (List ℕ)). Took Target (word ∷ words) p.0 p.1) (same_Some _ _ f)
    (record { front = word ∷ []; parts = refl; spelled = record { is_value = tt; are_words = inl (ap (λ (w : List ℕ). w ∷ []) is) } }))
    (λ e1. tested word (codes "table") _ _ r (Took Target (word ∷ words) r.0 r.1) e1
    (λ is f. named_device word _ words r is (device_one (codes "table") devices.Table 1 words r (λ n. refl) (λ n h s. h) f))
    (λ e2. tested word (codes "journal") _ _ r (Took Target (word ∷ words) r.0 r.1) e2
    (λ is f. named_device word _ words r is (device_one (codes "journal") devices.Journal 63 words r (λ n. refl) (λ n h s. h) f))
    (λ e3. tested word (codes "size") _ _ r (Took Target (word ∷ words) r.0 r.1) e3
    (λ is f. named_device word _ words r is (device_one (codes "size") devices.Size 255 words r (λ n. refl) (λ n h s. h) f))
    (λ e4. tested word (codes "slot") _ _ r (Took Target (word ∷ words) r.0 r.1) e4
    (λ is f. named_device word _ words r is (slot_at-takes words r f))
    (λ e5. tested word (codes "block") _ _ r (Took Target (word ∷ words) r.0 r.1) e5
    (λ is f. named_device word _ words r is (device_one (codes "block") devices.Block largest_number words r (λ n. refl) (λ n h s. h) f))
    (λ e6. absurd (none-some _ e6)))))))

target_at-again : (device : Device) (rest : List (List ℕ)) → IsDevice device → target_at (device_words device ++ rest) ≡ Some (device, rest)
unfolding target_at slot_at
target_at-again devices.Selector rest h = refl
target_at-again (devices.Table copy) rest h = rw (number_at-again 0 1 copy rest (omega arith) h (omega arith)) refl
target_at-again (devices.Journal position) rest h = rw (number_at-again 0 63 position rest (omega arith) h (omega arith)) refl
target_at-again (devices.Size rec) rest h = rw (number_at-again 0 255 rec rest (omega arith) h (omega arith)) refl
target_at-again (devices.Slot queue number) rest h =
    rw (number_at-again 0 largest_number queue (decimal number ∷ rest) (omega arith) h.0 h.0, number_at-again 0 largest_number number rest (omega arith) h.1 h.1) refl
target_at-again (devices.Block number) rest h = rw (number_at-again 0 largest_number number rest (omega arith) h h) refl

-- ---- seeks

offset_at-takes : (words : List (List ℕ)) (r : Seek × List (List ℕ)) → one_at offset_of words ≡ Some r → Took Whence (codes "cur" ∷ words) r.0 r.1
offset_at-takes words r e =
    let one = one_at-takes offset_of words r e in
    record { front = codes "cur" ∷ one.word ∷ []; parts = ap (λ (ws : List (List ℕ)). codes "cur" ∷ ws) one.parts; spelled = offset_of-takes one.word r.0 one.value }

set_at-takes : (words : List (List ℕ)) (r : Seek × List (List ℕ)) → (number_at 0 largest_number words >>= (λ n. Some (To n.0, n.1))) ≡ Some r → Took Whence (codes "set" ∷ words) r.0 r.1
set_at-takes words r e =
    let found = bind_some (number_at 0 largest_number words) (λ n. Some (To n.0, n.1)) r e in
    let number = number_at-takes 0 largest_number words found.0 found.1 in
    subst (λ (p : Seek × List (List ℕ)). Took Whence (codes "set" ∷ words) p.0 p.1) (same_Some _ _ found.2)
    (record { front = codes "set" ∷ decimal found.0.0 ∷ []; parts = ap (λ (ws : List (List ℕ)). codes "set" ∷ ws) number.0; spelled = record { is_value = number.2; are_words = inl refl } })

whence_at-takes : (words : List (List ℕ)) (r : Seek × List (List ℕ)) → whence_at words ≡ Some r → Took Whence words r.0 r.1
unfolding whence_at
whence_at-takes [] r e = absurd (none-some _ e)
whence_at-takes (word ∷ words) r e =
    tested word (codes "set") _ _ r (Took Whence (word ∷ words) r.0 r.1) e
    (λ is f. subst (λ (w : List ℕ). Took Whence (w ∷ words) r.0 r.1) (sym is) (set_at-takes words r f))
    (λ e1. tested word (codes "cur") _ _ r (Took Whence (word ∷ words) r.0 r.1) e1
    (λ is f. subst (λ (w : List ℕ). Took Whence (w ∷ words) r.0 r.1) (sym is) (offset_at-takes words r f))
    (λ e2. absurd (none-some _ e2)))

whence_at-again : (seek : Seek) (front rest : List (List ℕ)) → Spells Whence seek front → whence_at (front ++ rest) ≡ Some (seek, rest)
unfolding whence_at
whence_at-again seek front rest h = again h.are_words where
  plain : (s : Seek) → IsSeek s → whence_at (words_for Whence s ++ rest) ≡ Some (s, rest)
  plain (To n) v = rw (number_at-again 0 largest_number n rest (omega arith) v v) refl
  plain (On n) v = rw (offset_of-on n v) refl
  plain (Back n) v = rw (offset_of-back n v.0 v.1) refl

  again : (front ≡ words_for Whence seek) ⊎ IsOther Whence seek front → whence_at (front ++ rest) ≡ Some (seek, rest)
  again (inl e) = rw e (plain seek h.is_value)
  again (inr o) = rw (o.1, o.0, offset_of-none) refl

-- ---- all kinds

path_word : (names : List (List ℕ)) (word : List ℕ) → IsPathText word names → Spells Path names (word ∷ [])
path_word names word h = record { is_value = h.names_are; are_words = inl (ap (λ (w : List ℕ). w ∷ []) (sym h.text_is)) }

pub value_at-takes : (kind : Kind) (words : List (List ℕ)) (r : Value kind × List (List ℕ)) → value_at kind words ≡ Some r → Took kind words r.0 r.1
unfolding path_at opening_at payload_at
value_at-takes (Key text) words r e = record { front = text ∷ []; parts = key_at-takes text words r e; spelled = record { is_value = tt; are_words = inl refl } }
value_at-takes (Number least most) words r e =
    let number = number_at-takes least most words r e in
    record { front = decimal r.0 ∷ []; parts = number.0; spelled = record { is_value = (number.1, number.2, number.3); are_words = inl refl } }
value_at-takes Path words r e =
    let one = one_at-takes path_of words r e in
    record { front = one.word ∷ []; parts = one.parts; spelled = path_word r.0 one.word (path_of-takes one.word r.0 one.value) }
value_at-takes Opening [] r e = absurd (none-some _ e)
value_at-takes Opening (word ∷ words) r e =
    let found = bind_some (flags_of word) (λ flags. opened_at flags flags.create words) r e in
    let spelled = flags_of-takes word found.0 found.1 in
    let opened = opened_at-takes found.0 found.0.create words r refl spelled.access found.2 in
    record {
      front = word ∷ mode_words found.0.create r.0.1;
      parts = ap (λ (ws : List (List ℕ)). word ∷ ws) opened.0;
      spelled = record {
        is_value = subst (λ (f : Flags). IsOpening f r.0.1) (sym opened.1) opened.2;
        are_words = inl (subst (λ (f : Flags). word ∷ mode_words found.0.create r.0.1 ≡ flags_text f ∷ mode_words f.create r.0.1) (sym opened.1) (ap (λ (w : List ℕ). w ∷ mode_words found.0.create r.0.1) spelled.text));
      };
    }
value_at-takes Mode words r e =
    let mode = mode_at-takes words r e in
    record { front = mode_text r.0 ∷ []; parts = mode.0; spelled = record { is_value = mode.1; are_words = inl refl } }
value_at-takes Payload words r e =
    let one = one_at-takes payload_of words r e in
    record { front = one.word ∷ []; parts = one.parts; spelled = payload_of-takes one.word r.0 one.value }
value_at-takes Whence words r e = whence_at-takes words r e
value_at-takes Target words r e = target_at-takes words r e

-- the bytes of a write take one word
payload_at-again : (bytes : List ℕ) (front rest : List (List ℕ)) → Spells Payload bytes front → payload_at (front ++ rest) ≡ Some (bytes, rest)
unfolding payload_at
payload_at-again bytes front rest h = again h.are_words where
  whole : (word : List ℕ) → front ≡ word ∷ [] → payload_at (front ++ rest) ≡ Some (bytes, rest)
  whole word is =
      let one = payload_of-again bytes word (subst (λ (ws : List (List ℕ)). Spells Payload bytes ws) is h) in
      rw (is, one) refl

  again : (front ≡ words_for Payload bytes) ⊎ IsOther Payload bytes front → payload_at (front ++ rest) ≡ Some (bytes, rest)
  again (inl e) = whole _ e
  again (inr (inl one)) = whole one.0 one.1
  again (inr (inr one)) = whole one.0 one.1

pub canonical : (kind : Kind) (value : Value kind) (front : List (List ℕ)) → (IsOther kind value front → ⊥) → Spells kind value front → front ≡ words_for kind value
canonical kind value front none h = elim h.are_words [ inl e ↦ e | inr o ↦ absurd (none o) ]

pub value_at-again : (kind : Kind) (value : Value kind) (front rest : List (List ℕ)) → Spells kind value front → value_at kind (front ++ rest) ≡ Some (value, rest)
unfolding path_at opening_at
value_at-again (Key text) value front rest h = rw (canonical (Key text) value front (λ o. o) h) (key_at-again text rest)
value_at-again (Number least most) n front rest h =
    rw (canonical (Number least most) n front (λ o. o) h) (number_at-again least most n rest h.is_value.0 h.is_value.1 h.is_value.2)
value_at-again Path names front rest h =
    rw (canonical Path names front (λ o. o) h, path_of-again (text_of names) names (record { names_are = h.is_value; text_is = refl })) refl
value_at-again Opening v front rest h =
    rw (canonical Opening v front (λ o. o) h, flags_of-again v.0 h.is_value.access) (opened_at-again v.0 v.0.create v.1 rest refl h.is_value)
value_at-again Mode mode front rest h = rw (canonical Mode mode front (λ o. o) h) (mode_at-again mode rest h.is_value)
value_at-again Payload bytes front rest h = payload_at-again bytes front rest h
value_at-again Whence seek front rest h = whence_at-again seek front rest h
value_at-again Target device front rest h = rw (canonical Target device front (λ o. o) h) (target_at-again device rest h.is_value)

-- ---- all words

end_of-takes : (words : List (List ℕ)) (e : Unit {0}) → end_of words ≡ Some e → words ≡ []
end_of-takes [] e is = refl
end_of-takes (word ∷ words) e is = absurd (none-some _ is)

-- the words spell the values of which x is made
pub record Made {X : Type 0} (kinds : List Kind) (make : Values kinds → X) (words : List (List ℕ)) (x : X) : Type 0 where
  pub values : Values kinds
  pub spelled : SpellAll kinds values words
  pub is_made : make values ≡ x

pub read-takes : {X : Type 0} (kinds : List Kind) (make : Values kinds → X) (words : List (List ℕ)) (x : X) → read kinds make words ≡ Some x → Made kinds make words x
read-takes [] make words x e =
    let found = bind_some (end_of words) (λ e. Some (make tt)) x e in
    record { values = tt; spelled = end_of-takes words found.0 found.1; is_made = same_Some _ _ found.2 }
read-takes (kind ∷ kinds) make words x e =
    let found = bind_some (value_at kind words) (λ v. read kinds (λ values. make (v.0, values)) v.1) x e in
    let took = value_at-takes kind words found.0 found.1 in
    let rest = read-takes kinds (λ values. make (found.0.0, values)) found.0.1 x found.2 in
    record { values = (found.0.0, rest.values); spelled = (took.front, (found.0.1, (took.parts, took.spelled, rest.spelled))); is_made = rest.is_made }

pub read-again : {X : Type 0} (kinds : List Kind) (make : Values kinds → X) (words : List (List ℕ)) (values : Values kinds) → SpellAll kinds values words → read kinds make words ≡ Some (make values)
read-again [] make words values h = rw h refl
read-again (kind ∷ kinds) make words values h =
    let p = h.1.1 in
    rw (p.0, value_at-again kind values.0 h.0 h.1.0 p.1) (read-again kinds (λ others. make (values.0, others)) h.1.0 values.1 p.2)
