use Rattle.std.proofs.Common.{◌≡◌, ◌∷◌, [], ◌++◌, sym, subst}
use Rattle.std.specs.Prelude.{codes, OnOk}
use Rattle.std.specs.Fmt.{decimal}
use Rattle.cfs_dir.specs.Path.{text_of}
use Rattle.cfs_words.specs.Spelling.{Mode, Opening, Payload, Target, Whence, words_for}
use Rattle.cfs_script.specs.declared.form.Form.{Form}
use Rattle.cfs_script.specs.Printing.{form_printed}
use Rattle.cfs_script.proofs.Printed.{printed_next, printed_more, printed_last}
use Rattle.cfs_script.proofs.print.print_form.Goals as goal

pub returns-in_ok-print_path-in-Open : goal.returns-in_ok-print_path-in-Open
unfolding form_printed
returns-in_ok-print_path-in-Open c =
    subst (λ (f : Form). OnOk c.print_opening.result (c.print_opening.new.text.items ≡ c.args.text.now.items ++ form_printed f)) (sym c.in-Open.is)
    (printed_last c.print_opening.result c.args.text.now.items _ c.print_opening.new.text.items (decimal c.in-Open.caller) ((codes "open" ∷ []) ++ (text_of c.in-Open.path ∷ [])) (words_for Opening (c.in-Open.flags, c.in-Open.mode)) (printed_next c.args.text.now.items _ _ (decimal c.in-Open.caller) (codes "open" ∷ []) (text_of c.in-Open.path ∷ []) c.in_ok-print_request-in-Open.ensures c.in_ok-print_path-in-Open.ensures) c.print_opening.ensures)

pub returns-in_ok-print_path-in-Mkdir : goal.returns-in_ok-print_path-in-Mkdir
unfolding form_printed
returns-in_ok-print_path-in-Mkdir c =
    subst (λ (f : Form). OnOk c.print_mode.result (c.print_mode.new.text.items ≡ c.args.text.now.items ++ form_printed f)) (sym c.in-Mkdir.is)
    (printed_more c.print_mode.result c.args.text.now.items _ c.print_mode.new.text.items (decimal c.in-Mkdir.caller) ((codes "mkdir" ∷ []) ++ (text_of c.in-Mkdir.path ∷ [])) (words_for Mode c.in-Mkdir.mode) (printed_next c.args.text.now.items _ _ (decimal c.in-Mkdir.caller) (codes "mkdir" ∷ []) (text_of c.in-Mkdir.path ∷ []) c.in_ok-print_request-in-Mkdir.ensures c.in_ok-print_path-in-Mkdir.ensures) c.print_mode.ensures)

pub returns-in_ok-print_request-in-Unlink : goal.returns-in_ok-print_request-in-Unlink
unfolding form_printed
returns-in_ok-print_request-in-Unlink c =
    subst (λ (f : Form). OnOk c.print_path-in-Unlink.result (c.print_path-in-Unlink.new.text.items ≡ c.args.text.now.items ++ form_printed f)) (sym c.in-Unlink.is)
    (printed_more c.print_path-in-Unlink.result c.args.text.now.items _ c.print_path-in-Unlink.new.text.items (decimal c.in-Unlink.caller) (codes "unlink" ∷ []) (text_of c.in-Unlink.path ∷ []) c.in_ok-print_request-in-Unlink.ensures c.print_path-in-Unlink.ensures)

pub returns-in_ok-print_request-in-Rmdir : goal.returns-in_ok-print_request-in-Rmdir
unfolding form_printed
returns-in_ok-print_request-in-Rmdir c =
    subst (λ (f : Form). OnOk c.print_path-in-Rmdir.result (c.print_path-in-Rmdir.new.text.items ≡ c.args.text.now.items ++ form_printed f)) (sym c.in-Rmdir.is)
    (printed_more c.print_path-in-Rmdir.result c.args.text.now.items _ c.print_path-in-Rmdir.new.text.items (decimal c.in-Rmdir.caller) (codes "rmdir" ∷ []) (text_of c.in-Rmdir.path ∷ []) c.in_ok-print_request-in-Rmdir.ensures c.print_path-in-Rmdir.ensures)

pub returns-in_ok-print_path-in-Rename : goal.returns-in_ok-print_path-in-Rename
unfolding form_printed
returns-in_ok-print_path-in-Rename c =
    subst (λ (f : Form). OnOk c.print_path-in-Rename-2.result (c.print_path-in-Rename-2.new.text.items ≡ c.args.text.now.items ++ form_printed f)) (sym c.in-Rename.is)
    (printed_more c.print_path-in-Rename-2.result c.args.text.now.items _ c.print_path-in-Rename-2.new.text.items (decimal c.in-Rename.caller) ((codes "rename" ∷ []) ++ (text_of c.in-Rename.from ∷ [])) (text_of c.in-Rename.to ∷ []) (printed_next c.args.text.now.items _ _ (decimal c.in-Rename.caller) (codes "rename" ∷ []) (text_of c.in-Rename.from ∷ []) c.in_ok-print_request-in-Rename.ensures c.in_ok-print_path-in-Rename.ensures) c.print_path-in-Rename-2.ensures)

pub returns-in-Read : goal.returns-in-Read
unfolding form_printed
returns-in-Read c =
    subst (λ (f : Form). OnOk c.print_request-in-Read.result (c.print_request-in-Read.new.text.items ≡ c.args.text.now.items ++ form_printed f)) (sym c.in-Read.is)
    (c.print_request-in-Read.ensures)

pub returns-in_ok-print_request-in-Write : goal.returns-in_ok-print_request-in-Write
unfolding form_printed
returns-in_ok-print_request-in-Write c =
    subst (λ (f : Form). OnOk c.print_payload.result (c.print_payload.new.text.items ≡ c.args.text.now.items ++ form_printed f)) (sym c.in-Write.is)
    (printed_more c.print_payload.result c.args.text.now.items _ c.print_payload.new.text.items (decimal c.in-Write.caller) (codes "write" ∷ decimal c.in-Write.fd ∷ []) (words_for Payload c.in-Write.bytes) c.in_ok-print_request-in-Write.ensures c.print_payload.ensures)

pub returns-in-Pread : goal.returns-in-Pread
unfolding form_printed
returns-in-Pread c =
    subst (λ (f : Form). OnOk c.print_request-in-Pread.result (c.print_request-in-Pread.new.text.items ≡ c.args.text.now.items ++ form_printed f)) (sym c.in-Pread.is)
    (c.print_request-in-Pread.ensures)

pub returns-in_ok-print_request-in-Pwrite : goal.returns-in_ok-print_request-in-Pwrite
unfolding form_printed
returns-in_ok-print_request-in-Pwrite c =
    subst (λ (f : Form). OnOk c.print_payload-in-Pwrite.result (c.print_payload-in-Pwrite.new.text.items ≡ c.args.text.now.items ++ form_printed f)) (sym c.in-Pwrite.is)
    (printed_more c.print_payload-in-Pwrite.result c.args.text.now.items _ c.print_payload-in-Pwrite.new.text.items (decimal c.in-Pwrite.caller) (codes "pwrite" ∷ decimal c.in-Pwrite.fd ∷ decimal c.in-Pwrite.offset ∷ []) (words_for Payload c.in-Pwrite.bytes) c.in_ok-print_request-in-Pwrite.ensures c.print_payload-in-Pwrite.ensures)

pub returns-in_ok-print_request-in-TryPwrite : goal.returns-in_ok-print_request-in-TryPwrite
unfolding form_printed
returns-in_ok-print_request-in-TryPwrite c =
    subst (λ (f : Form). OnOk c.print_payload-in-TryPwrite.result (c.print_payload-in-TryPwrite.new.text.items ≡ c.args.text.now.items ++ form_printed f)) (sym c.in-TryPwrite.is)
    (printed_more c.print_payload-in-TryPwrite.result c.args.text.now.items _ c.print_payload-in-TryPwrite.new.text.items (decimal c.in-TryPwrite.caller) (codes "try_pwrite" ∷ decimal c.in-TryPwrite.fd ∷ decimal c.in-TryPwrite.offset ∷ []) (words_for Payload c.in-TryPwrite.bytes) c.in_ok-print_request-in-TryPwrite.ensures c.print_payload-in-TryPwrite.ensures)

pub returns-in_ok-print_request-in-Lseek : goal.returns-in_ok-print_request-in-Lseek
unfolding form_printed
returns-in_ok-print_request-in-Lseek c =
    subst (λ (f : Form). OnOk c.print_whence.result (c.print_whence.new.text.items ≡ c.args.text.now.items ++ form_printed f)) (sym c.in-Lseek.is)
    (printed_last c.print_whence.result c.args.text.now.items _ c.print_whence.new.text.items (decimal c.in-Lseek.caller) (codes "lseek" ∷ decimal c.in-Lseek.fd ∷ []) (words_for Whence c.in-Lseek.seek) c.in_ok-print_request-in-Lseek.ensures c.print_whence.ensures)

pub returns-in-Ftruncate : goal.returns-in-Ftruncate
unfolding form_printed
returns-in-Ftruncate c =
    subst (λ (f : Form). OnOk c.print_request-in-Ftruncate.result (c.print_request-in-Ftruncate.new.text.items ≡ c.args.text.now.items ++ form_printed f)) (sym c.in-Ftruncate.is)
    (c.print_request-in-Ftruncate.ensures)

pub returns-in-Close : goal.returns-in-Close
unfolding form_printed
returns-in-Close c =
    subst (λ (f : Form). OnOk c.print_request-in-Close.result (c.print_request-in-Close.new.text.items ≡ c.args.text.now.items ++ form_printed f)) (sym c.in-Close.is)
    (c.print_request-in-Close.ensures)

pub returns-in-Fsync : goal.returns-in-Fsync
unfolding form_printed
returns-in-Fsync c =
    subst (λ (f : Form). OnOk c.print_request-in-Fsync.result (c.print_request-in-Fsync.new.text.items ≡ c.args.text.now.items ++ form_printed f)) (sym c.in-Fsync.is)
    (c.print_request-in-Fsync.ensures)

pub returns-in-Post : goal.returns-in-Post
unfolding form_printed
returns-in-Post c =
    subst (λ (f : Form). OnOk c.print_request-in-Post.result (c.print_request-in-Post.new.text.items ≡ c.args.text.now.items ++ form_printed f)) (sym c.in-Post.is)
    (c.print_request-in-Post.ensures)

pub returns-in-Serve : goal.returns-in-Serve
unfolding form_printed
returns-in-Serve c =
    subst (λ (f : Form). OnOk c.print_request-in-Serve.result (c.print_request-in-Serve.new.text.items ≡ c.args.text.now.items ++ form_printed f)) (sym c.in-Serve.is)
    (c.print_request-in-Serve.ensures)

pub returns-in-Dispatch : goal.returns-in-Dispatch
unfolding form_printed
returns-in-Dispatch c =
    subst (λ (f : Form). OnOk c.print_order.result (c.print_order.new.text.items ≡ c.args.text.now.items ++ form_printed f)) (sym c.in-Dispatch.is)
    (c.print_order.ensures)

pub returns-in-Apply : goal.returns-in-Apply
unfolding form_printed
returns-in-Apply c =
    subst (λ (f : Form). OnOk c.print_order-in-Apply.result (c.print_order-in-Apply.new.text.items ≡ c.args.text.now.items ++ form_printed f)) (sym c.in-Apply.is)
    (c.print_order-in-Apply.ensures)

pub returns-in-Finish : goal.returns-in-Finish
unfolding form_printed
returns-in-Finish c =
    subst (λ (f : Form). OnOk c.print_order-in-Finish.result (c.print_order-in-Finish.new.text.items ≡ c.args.text.now.items ++ form_printed f)) (sym c.in-Finish.is)
    (c.print_order-in-Finish.ensures)

pub returns-in-Skip : goal.returns-in-Skip
unfolding form_printed
returns-in-Skip c =
    subst (λ (f : Form). OnOk c.print_order-in-Skip.result (c.print_order-in-Skip.new.text.items ≡ c.args.text.now.items ++ form_printed f)) (sym c.in-Skip.is)
    (c.print_order-in-Skip.ensures)

pub returns-in-Trim : goal.returns-in-Trim
unfolding form_printed
returns-in-Trim c =
    subst (λ (f : Form). OnOk c.print_order-in-Trim.result (c.print_order-in-Trim.new.text.items ≡ c.args.text.now.items ++ form_printed f)) (sym c.in-Trim.is)
    (c.print_order-in-Trim.ensures)

pub returns-in-Settle : goal.returns-in-Settle
unfolding form_printed
returns-in-Settle c =
    subst (λ (f : Form). OnOk c.print_order-in-Settle.result (c.print_order-in-Settle.new.text.items ≡ c.args.text.now.items ++ form_printed f)) (sym c.in-Settle.is)
    (c.print_order-in-Settle.ensures)

pub returns-in-Turn : goal.returns-in-Turn
unfolding form_printed
returns-in-Turn c =
    subst (λ (f : Form). OnOk c.print_order-in-Turn.result (c.print_order-in-Turn.new.text.items ≡ c.args.text.now.items ++ form_printed f)) (sym c.in-Turn.is)
    (c.print_order-in-Turn.ensures)

pub returns-in-Drain : goal.returns-in-Drain
unfolding form_printed
returns-in-Drain c =
    subst (λ (f : Form). OnOk c.print_order-in-Drain.result (c.print_order-in-Drain.new.text.items ≡ c.args.text.now.items ++ form_printed f)) (sym c.in-Drain.is)
    (c.print_order-in-Drain.ensures)

pub returns-in-Caller : goal.returns-in-Caller
unfolding form_printed
returns-in-Caller c =
    subst (λ (f : Form). OnOk c.print_order-in-Caller.result (c.print_order-in-Caller.new.text.items ≡ c.args.text.now.items ++ form_printed f)) (sym c.in-Caller.is)
    (c.print_order-in-Caller.ensures)

pub returns-in-Queue : goal.returns-in-Queue
unfolding form_printed
returns-in-Queue c =
    subst (λ (f : Form). OnOk c.print_order-in-Queue.result (c.print_order-in-Queue.new.text.items ≡ c.args.text.now.items ++ form_printed f)) (sym c.in-Queue.is)
    (c.print_order-in-Queue.ensures)

pub returns-in-Stop : goal.returns-in-Stop
unfolding form_printed
returns-in-Stop c =
    subst (λ (f : Form). OnOk c.print_order-in-Stop.result (c.print_order-in-Stop.new.text.items ≡ c.args.text.now.items ++ form_printed f)) (sym c.in-Stop.is)
    (c.print_order-in-Stop.ensures)

pub returns-in-Crash : goal.returns-in-Crash
unfolding form_printed
returns-in-Crash c =
    subst (λ (f : Form). OnOk c.print_order-in-Crash.result (c.print_order-in-Crash.new.text.items ≡ c.args.text.now.items ++ form_printed f)) (sym c.in-Crash.is)
    (c.print_order-in-Crash.ensures)

pub returns-in-Mount : goal.returns-in-Mount
unfolding form_printed
returns-in-Mount c =
    subst (λ (f : Form). OnOk c.print_order-in-Mount.result (c.print_order-in-Mount.new.text.items ≡ c.args.text.now.items ++ form_printed f)) (sym c.in-Mount.is)
    (c.print_order-in-Mount.ensures)

pub returns-in_ok-print_target-in-Fail : goal.returns-in_ok-print_target-in-Fail
unfolding form_printed
returns-in_ok-print_target-in-Fail c =
    subst (λ (f : Form). OnOk c.print_number.result (c.print_number.new.text.items ≡ c.args.text.now.items ++ form_printed f)) (sym c.in-Fail.is)
    (printed_more c.print_number.result c.args.text.now.items _ c.print_number.new.text.items (codes "fail") (([]) ++ (words_for Target c.in-Fail.device)) (decimal c.in-Fail.step ∷ []) (printed_next c.args.text.now.items _ _ (codes "fail") ([]) (words_for Target c.in-Fail.device) c.in_ok-print_order-in-Fail.ensures c.in_ok-print_target-in-Fail.ensures) c.print_number.ensures)

pub returns-in_ok-print_target-in-FailRead : goal.returns-in_ok-print_target-in-FailRead
unfolding form_printed
returns-in_ok-print_target-in-FailRead c =
    subst (λ (f : Form). OnOk c.print_number-in-FailRead.result (c.print_number-in-FailRead.new.text.items ≡ c.args.text.now.items ++ form_printed f)) (sym c.in-FailRead.is)
    (printed_more c.print_number-in-FailRead.result c.args.text.now.items _ c.print_number-in-FailRead.new.text.items (codes "failread") (([]) ++ (words_for Target c.in-FailRead.device)) (decimal c.in-FailRead.step ∷ []) (printed_next c.args.text.now.items _ _ (codes "failread") ([]) (words_for Target c.in-FailRead.device) c.in_ok-print_order-in-FailRead.ensures c.in_ok-print_target-in-FailRead.ensures) c.print_number-in-FailRead.ensures)

pub returns-in-Cut : goal.returns-in-Cut
unfolding form_printed
returns-in-Cut c =
    subst (λ (f : Form). OnOk c.print_order-in-Cut.result (c.print_order-in-Cut.new.text.items ≡ c.args.text.now.items ++ form_printed f)) (sym c.in-Cut.is)
    (c.print_order-in-Cut.ensures)
