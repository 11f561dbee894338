-- What a quorum of a view did. Two laws are all that is ever used of quorums: two of one view share a relay, and one has a relay.
-- Assumes nothing.
use mathlib.Core.Path.{◌≡◌}
use mathlib.Core.Bool.{true}
use Prim.Native.Nat.{ℕ, ◌<◌}
use Rattle.views.specs.View.{bit_of, member_of, reaches_of}
use Rattle.views.proofs.Quorums.{quorums_share, quorum_someone}
use Rattle.safety.proofs.Setting.{Setting}

-- P holds of each member of v that is in some set of relays which reaches v's quorum, in the setting C
pub record Most (C : Setting) (v : ℕ) (P : ℕ → Type 0) : Type 0 where
  pub voters : ℕ
  pub quorum : reaches_of v voters ≡ true
  pub each : (k : ℕ) → k < 8 → member_of v k ≡ true → bit_of voters k ≡ true → P k

pub shared : {C : Setting} {v : ℕ} {P Q : ℕ → Type 0} → Most C v P → Most C v Q → (k : ℕ) × P k × Q k
shared {v = v} h g =
    let s = quorums_share v h.voters g.voters h.quorum g.quorum in
    (s.relay, h.each s.relay s.small s.member s.first, g.each s.relay s.small s.member s.second)

pub someone : {C : Setting} {v : ℕ} {P : ℕ → Type 0} → Most C v P → (k : ℕ) × P k
someone {v = v} h =
    let s = quorum_someone v h.voters h.quorum in
    (s.relay, h.each s.relay s.small s.member s.first)

pub most-map : {C : Setting} {v : ℕ} {P Q : ℕ → Type 0} → ((k : ℕ) → P k → Q k) → Most C v P → Most C v Q
most-map f h = record { voters = h.voters; quorum = h.quorum; each = λ k l m d. f k (h.each k l m d) }
