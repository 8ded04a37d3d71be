-- The requests on names stay a legal order.
use Rattle.std.proofs.Common.{◌≡◌, ℕ, List, refl, sym, subst}
use Rattle.cfs_requests.specs.Steps.{NameEntry}
use Rattle.cfs_requests.proofs.Orders.{orders-go-on}
use Rattle.cfs_meaning.specs.NameSteps.{AreInOrder, Order, changes_of, record_made}
use Rattle.cfs_meaning.specs.Laws.{AreNamesLegal, NamesStayLegal}
use Rattle.cfs_meaning.specs.Play.{steps_so}
use Rattle.cfs_meaning.proofs.Keeping.{Any}
use Rattle.cfs_meaning.proofs.Worlds.{NameLaw, WorldLaw, law_of, moves, requests_of}
use Rattle.cfs_meaning.proofs.Lines.{Mounts, Powers, kept-each}
use Rattle.cfs_meaning.proofs.Recorded.{step-made}

alike : {b b' : Order} {l l' : List NameEntry} {n n' : Order} → b' ≡ b → l' ≡ l → n' ≡ n →
    AreInOrder b l n → AreInOrder b' l' n'
alike {b} {b'} {l} {l'} {n} {n'} base log now legal =
    subst (λ k. AreInOrder k l' n') (sym base)
    (subst (λ k. AreInOrder b k n') (sym log)
    (subst (λ k. AreInOrder b l k) (sym now) legal))

abbrev order_law : ℕ → WorldLaw
order_law line = record {
  fact = record {
    Holds = AreNamesLegal;
    MayBe = Any;
    MayEnd = Any;
    tries = λ ops world holds. (tt, holds);
    quiet = λ old new q holds. alike q.base q.log q.order holds;
    fault = λ may. tt;
    waits = λ place. tt;
    says = λ answer given. tt;
  };
  line = line;
  comes = λ ino e world own may_be holds. holds;
}

order-names : (line : ℕ) → NameLaw (order_law line)
order-names line = record {
  asks = λ c request rec step world is holds.
      orders-go-on world.names.base world.names.now step.1 world.names.log
      (record {
        caller = c;
        line = line;
        request = request;
        rec = record_made (changes_of world.names.now request rec);
        answer = step.0;
      })
      holds (step-made world.names.now c request rec step is);
  opens = λ c change world holds. holds;
}

order-powers : (line : ℕ) → Powers (law_of (order_law line))
order-powers line = record {
  joins = λ c uid gid. moves (order_law line).fact (λ world holds. holds);
  stops = λ n. moves (order_law line).fact (λ world holds. holds);
  plans = λ device writing k. moves (order_law line).fact (λ world holds. holds);
  crashes = λ k. moves (order_law line).fact (λ world holds. holds);
}

order-mounts : (line : ℕ) → Mounts (order_law line)
order-mounts line = record { fails = λ world holds. holds; leaves = λ world holds. refl }

pub names-stay : NamesStayLegal
names-stay old new line out (steps_so end way) legal =
    ((kept-each (order_law line.number)
    (requests_of (order_law line.number) (order-names line.number)) (order-powers line.number)
    (order-mounts line.number) line.form).means.by old end new legal way).1
