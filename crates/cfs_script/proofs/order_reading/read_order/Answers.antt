use Rattle.std.proofs.Common.{sym, subst}
use Rattle.cfs_words.specs.Reading.{Gives}
use Rattle.cfs_script.specs.declared.order.Order.{Order}
use Rattle.cfs_script.specs.Reading.{order_read}
use Rattle.cfs_script.proofs.order_reading.read_order.Goals as goal

pub returns-in-Dispatch : goal.returns-in-Dispatch
returns-in-Dispatch c = subst (λ (order : Order). Gives (λ form. form) c.dispatch.result (order_read order c.args.words.now)) (sym c.in-Dispatch.is) c.dispatch.ensures

pub returns-in-Apply : goal.returns-in-Apply
returns-in-Apply c = subst (λ (order : Order). Gives (λ form. form) c.apply.result (order_read order c.args.words.now)) (sym c.in-Apply.is) c.apply.ensures

pub returns-in-Finish : goal.returns-in-Finish
returns-in-Finish c = subst (λ (order : Order). Gives (λ form. form) c.finish.result (order_read order c.args.words.now)) (sym c.in-Finish.is) c.finish.ensures

pub returns-in-Skip : goal.returns-in-Skip
returns-in-Skip c = subst (λ (order : Order). Gives (λ form. form) c.skip.result (order_read order c.args.words.now)) (sym c.in-Skip.is) c.skip.ensures

pub returns-in-Trim : goal.returns-in-Trim
returns-in-Trim c = subst (λ (order : Order). Gives (λ form. form) c.trim.result (order_read order c.args.words.now)) (sym c.in-Trim.is) c.trim.ensures

pub returns-in-Settle : goal.returns-in-Settle
returns-in-Settle c = subst (λ (order : Order). Gives (λ form. form) c.settle.result (order_read order c.args.words.now)) (sym c.in-Settle.is) c.settle.ensures

pub returns-in-Turn : goal.returns-in-Turn
returns-in-Turn c = subst (λ (order : Order). Gives (λ form. form) c.turn.result (order_read order c.args.words.now)) (sym c.in-Turn.is) c.turn.ensures

pub returns-in-Drain : goal.returns-in-Drain
returns-in-Drain c = subst (λ (order : Order). Gives (λ form. form) c.drain.result (order_read order c.args.words.now)) (sym c.in-Drain.is) c.drain.ensures

pub returns-in-Caller : goal.returns-in-Caller
returns-in-Caller c = subst (λ (order : Order). Gives (λ form. form) c.caller.result (order_read order c.args.words.now)) (sym c.in-Caller.is) c.caller.ensures

pub returns-in-Queue : goal.returns-in-Queue
returns-in-Queue c = subst (λ (order : Order). Gives (λ form. form) c.queue.result (order_read order c.args.words.now)) (sym c.in-Queue.is) c.queue.ensures

pub returns-in-Stop : goal.returns-in-Stop
returns-in-Stop c = subst (λ (order : Order). Gives (λ form. form) c.stop.result (order_read order c.args.words.now)) (sym c.in-Stop.is) c.stop.ensures

pub returns-in-Crash : goal.returns-in-Crash
returns-in-Crash c = subst (λ (order : Order). Gives (λ form. form) c.crash.result (order_read order c.args.words.now)) (sym c.in-Crash.is) c.crash.ensures

pub returns-in-Mount : goal.returns-in-Mount
returns-in-Mount c = subst (λ (order : Order). Gives (λ form. form) c.mount.result (order_read order c.args.words.now)) (sym c.in-Mount.is) c.mount.ensures

pub returns-in-Fail : goal.returns-in-Fail
returns-in-Fail c = subst (λ (order : Order). Gives (λ form. form) c.fail.result (order_read order c.args.words.now)) (sym c.in-Fail.is) c.fail.ensures

pub returns-in-FailRead : goal.returns-in-FailRead
returns-in-FailRead c = subst (λ (order : Order). Gives (λ form. form) c.fail_read.result (order_read order c.args.words.now)) (sym c.in-FailRead.is) c.fail_read.ensures

pub returns-in-Cut : goal.returns-in-Cut
returns-in-Cut c = subst (λ (order : Order). Gives (λ form. form) c.cut.result (order_read order c.args.words.now)) (sym c.in-Cut.is) c.cut.ensures
