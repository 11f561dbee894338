-- The rules at one generator (the relay k's, for the view v): their entries are justified, and the generator stays tied. Assumes nothing.
use Rattle.std.specs.Prelude.{if◌then◌else◌}
use mathlib.Core.Path.{◌≡◌, refl, sym, subst, ap, ◌∙◌}
use mathlib.Core.Logic.{◌⊎◌, inl, inr, ⊎_elim}
use mathlib.Core.Bool.{Bool, true, false, not, ◌&&◌, and-eq-true_iff}
use mathlib.Core.List.Memᴰ
use mathlib.Core.List.{List, [], ◌∷◌}
use Prim.Native.Nat.{ℕ, zero, suc, ◌+◌, ◌*◌, ◌/◌, ◌%◌, ◌^◌, ◌<◌}
use native.Mathlib.Omega.{arith}
use native.Mathlib.Decide.{ℕ_discrete, dec_lt}
use lib.ListN.{length, get_or, set, length-set, get_or-eq_default}
use lib.Seq.{get_or-set_same, get_or-set_other}
use borrow.Author.Tests.{eqb-true, not-true}
use Rattle.views.specs.View.{bit_of, reaches_of}
use Rattle.views.specs.Chain.{has_of, lacks_of, same_of, least_of, heard_of}
use Rattle.views.proofs.Truth.{contrary, cases, decided}
use Rattle.views.proofs.Digits.{digit, digit_shr, bit_fact, bit_test, bit_none}
use Rattle.views.proofs.Among.{has_first, lacks_fact, lacks_test, lacks_self, same_fact, same_self}
use Rattle.views.proofs.Merge.{heard_contains}
use Rattle.rules.specs.Sets.{none, same}
use Rattle.rules.specs.Messages.{proposal, converged, install, to_members, to_both}
use Rattle.rules.specs.State.{Generator}
use Rattle.rules.specs.Generators.{Turn, with_own, proposes, one_if, agreeing, agree, hears, settles, proposal_heard, notes_converged, raises, converged_heard}
use Rattle.safety.proofs.Setting.{Setting}
use Rattle.safety.proofs.Lists.{All, all_none, all_append}
use Rattle.safety.proofs.Sequences.{◌⊆◌}
use Rattle.safety.proofs.Bridge.{has_in, in_has, nil_lacks, Kept, kept_full, full-none, none_nil, full-kept, kept-sequence, kept_above, heard_kept, heard_merge}
use Rattle.safety.proofs.Log.{tag, Log, ◌∋◌, first, own, conv, raise, First, own_first, own_merge, Raise, Sound}
use Rattle.safety.proofs.Past.{sound_more}
use Rattle.safety.proofs.Growth.{Since, stay, add, since_join, Turning}
use Rattle.safety.proofs.GeneratorFacts.{generator_own_lem, conv_justified, generator_conv}
use Rattle.safety.proofs.Ties.{GeneratorTied, SendingBacked}
use Rattle.safety.proofs.Grown.{generator_more, sendings_since, sent_alike}

pub record TurnDone (C : Setting) (l : Log) (k v : ℕ) (t : Turn) : Type 0 where
  pub log : Log
  pub since : Since (Turning k v) l log
  pub sound : Sound C log
  pub tied : GeneratorTied log k v t.next
  pub sent : All (SendingBacked log k) t.sendings

-- who agrees: a bit of the mask says that the note is q
agreeing_bit : (ns : List (List ℕ)) (q : List ℕ) (k : ℕ) → bit_of (agreeing ns q) k ≡ true → get_or ns k [] ≡ q
unfolding agreeing digit
agreeing_bit [] q k e = absurd (contrary e (bit_none k))
agreeing_bit (n ∷ ns) q zero e = same_fact n q (go (same n q) (eqb-true _ 1 e))
  where
    go : (b : Bool) → (agreeing ns q * 2 + one_if b) / 2 ^ 0 % 2 ≡ 1 → b ≡ true
    go true h = refl
    go false h = absurd (omega arith)
agreeing_bit (n ∷ ns) q (suc k) e =
    agreeing_bit ns q k (bit_test (agreeing ns q) k (sym (ap (digit k) (half (same n q))) ∙ digit_shr k 1 (agreeing (n ∷ ns) q) ∙ ap (λ (i : ℕ). digit i (agreeing (n ∷ ns) q)) one ∙ bit_fact (agreeing (n ∷ ns) q) (suc k) e))
  where
    one : 1 + k ≡ suc k
    one = omega arith

    half : (b : Bool) → (agreeing ns q * 2 + one_if b) / 2 ^ 1 ≡ agreeing ns q
    half true = omega arith
    half false = omega arith

module _ {C : Setting} {l : Log} {k v : ℕ} (S : Sound C l) where
  -- "Propose q for v: if v's generator has an empty own sequence, it becomes q and goes as proposal to all members of v, oneself too; else nothing."
  pub proposes-done : {q : List ℕ} (g : Generator) → GeneratorTied l k v g → First C l k v q → Kept v q → TurnDone C l k v (proposes g q)
  unfolding proposes with_own
  proposes-done {q} g G j h = cases (TurnDone C l k v) (none g.own) (λ e. go (none_nil g.own e)) (λ e. record {
    log = l;
    since = stay;
    sound = S;
    tied = G;
    sent = all_none;
  })
    where
      go : g.own ≡ [] → TurnDone C l k v (record { next = with_own g q; sendings = to_members g.view (proposal g.view q) ∷ [] })
      go e =
          let G1 = generator_more {e = first k v q} (λ p c. omega (arith, ap tag c)) G in
          let G2 = generator_more {e = own k v q} (λ p c. omega (arith, ap tag c)) G1 in
          record {
            log = own k v q ∷ first k v q ∷ l;
            since = add {e = own k v q} (inl refl, omega arith, λ u z c. cc) (add {e = first k v q} (inl refl, omega arith, λ u z c. cc) stay);
            sound = sound_more (own k v q) (sound_more (first k v q) S j) (record { sequence = kept-sequence h; above = kept_above h; from = own_first (Memᴰ.head refl) });
            tied = record {
              view-is = G.view-is;
              facts = generator_own_lem G1.facts;
              own-rises = h.rising;
              conv_rises = G.conv_rises;
              contained = lacks_test g.converged q (λ x i. absurd (nil_lacks x (lacks_fact g.converged g.own G.contained x i) e));
              heard = G2.heard;
            };
            sent = sent_alike (own k v q ∷ first k v q ∷ l) k (to_members g.view (proposal g.view q)) (λ n. rw G.view-is (Memᴰ.head refl, h));
          }

  -- "Proposal(v, q): note it for the sender. If q has a view that own lacks: ..  Send the new own to all members."
  hears-done : {q : List ℕ} (from : ℕ) (g : Generator) → GeneratorTied l k v g → l ∋ own from v q → Kept v q → TurnDone C l k v (hears g from q)
  unfolding hears heard_of
  hears-done {q} from g G m h = ⊎_elim more less (decided (lacks_of q g.own))
    where
      more : lacks_of q g.own ≡ true → TurnDone C l k v (hears g from q)
      more e =
          let p : List ℕ = heard_of g.own g.converged q in
          let K : Kept v p = heard_kept g.own g.converged q G.own-rises G.conv_rises h.rising G.contained e in
          let M = heard_merge g.own g.converged q G.own-rises G.conv_rises h.rising G.contained e in
          let G1 = generator_more {e = own k v p} (λ z c. omega (arith, ap tag c)) G in
          record {
            log = own k v p ∷ l;
            since = add {e = own k v p} (inl refl, omega arith, λ u z c. cc) stay;
            sound = sound_more (own k v p) S (record { sequence = kept-sequence K; above = kept_above K; from = own_merge G.facts.own_is m M });
            tied = record {
              view-is = G.view-is;
              facts = generator_own_lem G.facts;
              own-rises = K.rising;
              conv_rises = G.conv_rises;
              contained = heard_contains g.own g.converged q G.contained;
              heard = G1.heard;
            };
            sent = subst (λ (b : Bool). All (SendingBacked (own k v p ∷ l) k) (if b then to_members g.view (proposal g.view p) ∷ [] else [])) (sym e)
                (sent_alike (own k v p ∷ l) k (to_members g.view (proposal g.view p)) (λ n. rw G.view-is (Memᴰ.head refl, K)));
          }

      less : lacks_of q g.own ≡ false → TurnDone C l k v (hears g from q)
      less e = record {
        log = l;
        since = stay;
        sound = S;
        tied = rw e (record {
          view-is = G.view-is;
          facts = G.facts;
          own-rises = G.own-rises;
          conv_rises = G.conv_rises;
          contained = G.contained;
          heard = G.heard;
        });
        sent = rw e all_none;
      }

  -- "Then, if own differs from converged and a quorum of v's last noted proposals equal own, converged becomes own and goes out to all members."
  settles-done : (g : Generator) → GeneratorTied l k v g → TurnDone C l k v (settles g)
  unfolding settles
  settles-done g G =
      cases (TurnDone C l k v) (not (same g.own g.converged) && agree g.view g.proposals g.own)
      (λ e. go (not-true _ ((and-eq-true_iff _ _).0 e).0)) (λ e. record { log = l; since = stay; sound = S; tied = G; sent = all_none })
    where
      -- an empty own sequence would contain no other converged one
      full : same g.own g.converged ≡ false → g.own ≡ [] → ⊥
      full e z = contrary (rw z (empty g.converged (λ x i. nil_lacks x (lacks_fact g.converged g.own G.contained x i) z))) e
        where
          empty : (c : List ℕ) → ((x : ℕ) → has_of c x ≡ true → ⊥) → same_of [] c ≡ true
          empty [] f = same_self []
          empty (w ∷ c) f = absurd (f w (has_first w c))

      grows : g.converged ⊆ g.own
      grows w i = has_in g.own w (lacks_fact g.converged g.own G.contained w (in_has i))

      go : same g.own g.converged ≡ false → TurnDone C l k v (record {
        next = record { view = g.view; own = g.own; converged = g.own; raised = g.raised; proposals = g.proposals; convergences = g.convergences };
        sendings = to_members g.view (converged g.view g.own) ∷ [];
      })
      go e = record {
        log = conv k v g.own ∷ l;
        since = add {e = conv k v g.own} (inl refl, omega arith, λ u z c. cc) stay;
        sound = sound_more (conv k v g.own) S (conv_justified G.facts (full e) grows);
        tied = record {
          view-is = G.view-is;
          facts = generator_conv G.facts (full e) grows;
          own-rises = G.own-rises;
          conv_rises = G.own-rises;
          contained = lacks_self g.own;
          heard = λ j. later (G.heard j);
        };
        sent = sent_alike (conv k v g.own ∷ l) k (to_members g.view (converged g.view g.own)) (λ n. rw G.view-is (Memᴰ.head refl, full-kept G.own-rises (full-none (full e))));
      }
        where
          later : {j : ℕ} {q : List ℕ} → (q ≡ []) ⊎ (l ∋ conv j v q) → (q ≡ []) ⊎ ((conv k v g.own ∷ l) ∋ conv j v q)
          later (inl z) = inl z
          later (inr m) = inr (Memᴰ.tail m)

  -- "Converged(v, q): note it."
  notes_tied : {q : List ℕ} (from : ℕ) (g : Generator) → GeneratorTied l k v g → l ∋ conv from v q → GeneratorTied l k v (notes_converged g from q)
  unfolding notes_converged
  notes_tied {q} from g G m = record {
    view-is = G.view-is;
    facts = G.facts;
    own-rises = G.own-rises;
    conv_rises = G.conv_rises;
    contained = G.contained;
    heard = λ j. go j (ℕ_discrete j from) (dec_lt from (length g.convergences));
  }
    where
      go : (j : ℕ) → Dec (j ≡ from) → Dec (from < length g.convergences)
          → (get_or (set g.convergences from q) j [] ≡ []) ⊎ (l ∋ conv j v (get_or (set g.convergences from q) j []))
      go j (no n) d = rw (get_or-set_other g.convergences from j q [] n) (G.heard j)
      go j (yes e) (yes s) = inr (rw (e, get_or-set_same g.convergences from q [] s) m)
      go j (yes e) (no s) = inl (rw e (get_or-eq_default (set g.convergences from q) [] (omega (arith, length-set g.convergences from q, s))))

  -- "If a quorum's last notes equal q and q is not the last raised, raise it: install(v, least(q), q) goes to all who are members of v or of least(q)."
  pub converged-done : {q : List ℕ} (from : ℕ) (g : Generator) → GeneratorTied l k v g → l ∋ conv from v q → Kept v q
      → TurnDone C l k v (converged_heard g from q)
  unfolding converged_heard raises
  converged-done {q} from g G m h =
      let H = notes_tied from g G m in
      cases (TurnDone C l k v) (agree g.view (notes_converged g from q).convergences q && not (same q g.raised))
      (λ e. go H ((and-eq-true_iff _ _).0 e).0) (λ e. record { log = l; since = stay; sound = S; tied = H; sent = all_none })
    where
      go : GeneratorTied l k v (notes_converged g from q) → reaches_of g.view (agreeing (notes_converged g from q).convergences q) ≡ true
          → TurnDone C l k v (record {
            next = raises (notes_converged g from q) q;
            sendings = to_both g.view (least_of q) (install g.view (least_of q) q) ∷ [];
          })
      go H e = record {
        log = raise v q ∷ l;
        since = add {e = raise v q} (inr refl, omega arith, λ u z c. cc) stay;
        sound = sound_more (raise v q) S votes;
        tied = record {
          view-is = H1.view-is;
          facts = H1.facts;
          own-rises = H1.own-rises;
          conv_rises = H1.conv_rises;
          contained = H1.contained;
          heard = H1.heard;
        };
        sent = sent_alike (raise v q ∷ l) k (to_both g.view (least_of q) (install g.view (least_of q) q)) (λ n. rw G.view-is (record { raised = Memᴰ.head refl; kept = h; least = refl }));
      }
        where
          votes : Raise C l v q
          votes = record {
            voters = agreeing (notes_converged g from q).convergences q;
            quorum = subst (λ (x : ℕ). reaches_of x (agreeing (notes_converged g from q).convergences q) ≡ true) G.view-is e;
            each = λ j s i b. let z = agreeing_bit (notes_converged g from q).convergences q j b in
                ⊎_elim (λ y. absurd (kept_full h (sym z ∙ y))) (λ y. rw z at y) (H.heard j);
          }

          H1 : GeneratorTied (raise v q ∷ l) k v (notes_converged g from q)
          H1 = generator_more (λ p c. omega (arith, ap tag c)) H

module _ {C : Setting} {l : Log} {k v : ℕ} (S : Sound C l) where
  pub proposal-done : {q : List ℕ} (from : ℕ) (g : Generator) → GeneratorTied l k v g → l ∋ own from v q → Kept v q
      → TurnDone C l k v (proposal_heard g from q)
  unfolding proposal_heard
  proposal-done {q} from g G m h =
      let one = hears-done S from g G m h in
      let two = settles-done one.sound (hears g from q).next one.tied in
      record {
        log = two.log;
        since = since_join one.since two.since;
        sound = two.sound;
        tied = two.tied;
        sent = all_append (sendings_since two.since one.sent) two.sent;
      }
