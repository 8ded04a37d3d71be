-- All operations of a stage write.
use Rattle.std.proofs.Common.{ℕ, zero, suc, ◌≡◌, ◌+◌, ◌*◌, true, List, [], ◌∷◌, ◌++◌, length, refl}
use Rattle.cfs_file.specs.declared.request.Request.{Request}
use Rattle.cfs_pmem.specs.Runs.{AllWrite}
use Rattle.cfs_pmem.specs.WordOps.{WordOp, persist, puts, word_asks}
use Rattle.cfs_slot.specs.Operations.{payload_words, stage_ops}
use Rattle.cfs_slot.specs.Staging.{staged_kind, staged_offset, staged_payload, words_for}

writes-append : (device : ℕ) (later earlier : List WordOp) → AllWrite (word_asks device) later → AllWrite (word_asks device) earlier → AllWrite (word_asks device) (later ++ earlier)
writes-append device [] earlier a b = b
writes-append device (op ∷ later) earlier a b = (a.0, writes-append device later earlier a.1 b)

writes-puts : (device from : ℕ) (words : List ℕ) (n : ℕ) → AllWrite (word_asks device) (puts from words n)
writes-puts device from words zero = tt
writes-puts device from words (suc n) = (refl, writes-puts device from words n)

pub stage-writes : (device ino : ℕ) (request : Request) (grant : ℕ) → AllWrite (word_asks device) (stage_ops ino request grant)
stage-writes device ino request grant = (
  refl,
  writes-append device
      (puts 6 (payload_words (words_for (length (staged_payload request))) (staged_payload request))
      (length (payload_words (words_for (length (staged_payload request))) (staged_payload request))))
      (puts 1 (0 ∷ ino ∷ staged_offset request ∷ (staged_kind request * 65536 + length (staged_payload request)) ∷ grant ∷ []) 5)
      (writes-puts device 6 (payload_words (words_for (length (staged_payload request))) (staged_payload request))
      (length (payload_words (words_for (length (staged_payload request))) (staged_payload request))))
      (writes-puts device 1 (0 ∷ ino ∷ staged_offset request ∷ (staged_kind request * 65536 + length (staged_payload request)) ∷ grant ∷ []) 5),
)
