use Rattle.std.proofs.Common.{sym, subst}
use Rattle.cfs_words.specs.Reading.{Gives}
use Rattle.cfs_script.specs.declared.verb.Verb.{Verb}
use Rattle.cfs_script.specs.Reading.{verb_read}
use Rattle.cfs_script.proofs.verb_reading.read_verb.Goals as goal

pub returns-in-Open : goal.returns-in-Open
returns-in-Open c = subst (λ (verb : Verb). Gives (λ form. form) c.open.result (verb_read c.args.caller verb c.args.words.now)) (sym c.in-Open.is) c.open.ensures

pub returns-in-Mkdir : goal.returns-in-Mkdir
returns-in-Mkdir c = subst (λ (verb : Verb). Gives (λ form. form) c.mkdir.result (verb_read c.args.caller verb c.args.words.now)) (sym c.in-Mkdir.is) c.mkdir.ensures

pub returns-in-Unlink : goal.returns-in-Unlink
returns-in-Unlink c = subst (λ (verb : Verb). Gives (λ form. form) c.unlink.result (verb_read c.args.caller verb c.args.words.now)) (sym c.in-Unlink.is) c.unlink.ensures

pub returns-in-Rmdir : goal.returns-in-Rmdir
returns-in-Rmdir c = subst (λ (verb : Verb). Gives (λ form. form) c.rmdir.result (verb_read c.args.caller verb c.args.words.now)) (sym c.in-Rmdir.is) c.rmdir.ensures

pub returns-in-Rename : goal.returns-in-Rename
returns-in-Rename c = subst (λ (verb : Verb). Gives (λ form. form) c.rename.result (verb_read c.args.caller verb c.args.words.now)) (sym c.in-Rename.is) c.rename.ensures

pub returns-in-Read : goal.returns-in-Read
returns-in-Read c = subst (λ (verb : Verb). Gives (λ form. form) c.read.result (verb_read c.args.caller verb c.args.words.now)) (sym c.in-Read.is) c.read.ensures

pub returns-in-Write : goal.returns-in-Write
returns-in-Write c = subst (λ (verb : Verb). Gives (λ form. form) c.write.result (verb_read c.args.caller verb c.args.words.now)) (sym c.in-Write.is) c.write.ensures

pub returns-in-Pread : goal.returns-in-Pread
returns-in-Pread c = subst (λ (verb : Verb). Gives (λ form. form) c.pread.result (verb_read c.args.caller verb c.args.words.now)) (sym c.in-Pread.is) c.pread.ensures

pub returns-in-Pwrite : goal.returns-in-Pwrite
returns-in-Pwrite c = subst (λ (verb : Verb). Gives (λ form. form) c.pwrite.result (verb_read c.args.caller verb c.args.words.now)) (sym c.in-Pwrite.is) c.pwrite.ensures

pub returns-in-TryPwrite : goal.returns-in-TryPwrite
returns-in-TryPwrite c = subst (λ (verb : Verb). Gives (λ form. form) c.try_pwrite.result (verb_read c.args.caller verb c.args.words.now)) (sym c.in-TryPwrite.is) c.try_pwrite.ensures

pub returns-in-Lseek : goal.returns-in-Lseek
returns-in-Lseek c = subst (λ (verb : Verb). Gives (λ form. form) c.lseek.result (verb_read c.args.caller verb c.args.words.now)) (sym c.in-Lseek.is) c.lseek.ensures

pub returns-in-Ftruncate : goal.returns-in-Ftruncate
returns-in-Ftruncate c = subst (λ (verb : Verb). Gives (λ form. form) c.ftruncate.result (verb_read c.args.caller verb c.args.words.now)) (sym c.in-Ftruncate.is) c.ftruncate.ensures

pub returns-in-Close : goal.returns-in-Close
returns-in-Close c = subst (λ (verb : Verb). Gives (λ form. form) c.close.result (verb_read c.args.caller verb c.args.words.now)) (sym c.in-Close.is) c.close.ensures

pub returns-in-Fsync : goal.returns-in-Fsync
returns-in-Fsync c = subst (λ (verb : Verb). Gives (λ form. form) c.fsync.result (verb_read c.args.caller verb c.args.words.now)) (sym c.in-Fsync.is) c.fsync.ensures

pub returns-in-Post : goal.returns-in-Post
returns-in-Post c = subst (λ (verb : Verb). Gives (λ form. form) c.post.result (verb_read c.args.caller verb c.args.words.now)) (sym c.in-Post.is) c.post.ensures

pub returns-in-Serve : goal.returns-in-Serve
returns-in-Serve c = subst (λ (verb : Verb). Gives (λ form. form) c.serve.result (verb_read c.args.caller verb c.args.words.now)) (sym c.in-Serve.is) c.serve.ensures
