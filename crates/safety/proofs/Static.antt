-- Demand 3, for any sound log: any two views in which relays were ever active are nested, and the operations have an order.
-- Assumes nothing.
use Prim.Native.Nat.{ℕ}
use Rattle.safety.proofs.Setting.{Setting}
use Rattle.safety.proofs.Sequences.{Comparable}
use Rattle.safety.proofs.Log.{Log, Active, Sound}
use Rattle.safety.proofs.Past.{now}
use Rattle.safety.proofs.Agreement.{active-entered}
use Rattle.safety.proofs.Stay.{comparable}
use Rattle.safety.proofs.Order.{Ops, Order, Descending}
use Rattle.safety.proofs.OneOrder.{one_order}

pub record Demand3 (C : Setting) (t : Log) : Type 0 where
  pub one_chain : {j k u v : ℕ} → Active C t j u → Active C t k v → Comparable u v
  pub order : Ops
  pub is-order : Order t order
  pub stamps : Descending order

pub demand3 : {C : Setting} {t : Log} → Sound C t → Demand3 C t
demand3 S = record {
  one_chain = λ {j} {k} {u} {v} a b. comparable S (active-entered S now a) (active-entered S now b);
  order = (one_order S).0;
  is-order = (one_order S).1;
  stamps = (one_order S).2;
}
