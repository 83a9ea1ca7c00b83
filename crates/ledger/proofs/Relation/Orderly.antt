-- SPDX-License-Identifier: Apache-2.0
-- What holds of every ledger: its keys are apart, in slots below the capacity and dated by numbers given, and so are its tokens; and every
-- change of the ledger keeps that. Assumes nothing.
use Prim.Native.Nat.{ℕ, ◌+◌, ◌<◌, ◌≤◌}
use native.Mathlib.Omega.{arith}
use mathlib.Core.Path.{◌≡◌, refl, sym, ap, ◌∙◌}
use mathlib.Core.Bool.{Bool, true, false≢true}
use mathlib.Core.List.{List, ◌∷◌, map}
use lib.ListN.{get_or}
use borrow.Author.Tests.{eq-eqb}
use Rattle.basics.specs.Numbers.{NONE}
use Rattle.basics.specs.Lists.{keep}
use Rattle.basics.specs.Members.{In}
use Rattle.basics.proofs.Members.{in_none, in_case, map_in}
use Rattle.basics.proofs.Keeps.{keep_in}
use Rattle.key.specs.declared.CacheKey.{CacheKey}
use Rattle.state.specs.declared.LoadToken.{LoadToken}
use Rattle.ledger.specs.Ledger.{Held, Ledger, begin, with_held, next_token, reserves, used_one, uses, ends, clean_one, stays, moved_one, remakes}
use Rattle.ledger.proofs.Keys.Apart.{Apart, apart_keep, apart_map}
use Rattle.ledger.proofs.Keys.Slots.{not_in_held}
use Rattle.ledger.proofs.Keys.Changes.{by_used, used_differ, by_clean, clean_differ}

pub record Orderly (l : Ledger) : Type 0 where
  pub apart : Apart l.held
  pub inside : (h : Held) → In h l.held → h.slot < l.capacity
  pub dated : (h : Held) → In h l.held → h.last ≤ l.uses
  -- tokens have numbers given, each generation once
  pub numbers : (k : LoadToken) → In k l.given → (k.generation ≤ l.generations) × (k.access_sequence ≤ l.uses)
  pub single : (k m : LoadToken) → In k l.given → In m l.given → k.generation ≡ m.generation → k ≡ m
  pub past : (k : LoadToken) → In k l.ended → k.generation ≤ l.generations

pub orderly_begin : (c : ℕ) → Orderly (begin c)
unfolding begin
orderly_begin c = record { apart = tt; inside = λ h i. in_none i; dated = λ h i. in_none i; numbers = λ k i. in_none i; single = λ k m i j q. in_none i; past = λ k i. in_none i }

module _ (l : Ledger) (o : Orderly l) where
  -- ── keys leave ──
  pub orderly_keep : (p : Held → Bool) → Orderly (with_held l (keep p l.held))
  orderly_keep p =
      record {
        apart = apart_keep p l.held o.apart;
        inside = λ h i. o.inside h (keep_in p l.held h i).0;
        dated = λ h i. o.dated h (keep_in p l.held h i).0;
        numbers = o.numbers;
        single = o.single;
        past = o.past;
      }

  -- ── a key is used ──
  pub orderly_uses : (key : CacheKey) → Orderly (uses l key)
  unfolding uses
  orderly_uses key =
      let n : ℕ = l.uses + 1 in
      let f : Held → Held = used_one key n in
      record {
        apart = apart_map f l.held (λ a b i j d. used_differ key n a b (omega (arith, o.dated a i)) (omega (arith, o.dated b j)) d) o.apart;
        inside = λ h i. let q = map_in f l.held h i in rw q.2 (by_used key n q.0 (λ y. y.slot < l.capacity) (λ z. o.inside q.0 q.1) (λ z. o.inside q.0 q.1));
        dated = λ h i. let q = map_in f l.held h i in rw q.2 (by_used key n q.0 (λ y. y.last ≤ n) (λ z. omega arith) (λ z. omega (arith, o.dated q.0 q.1)));
        numbers = λ k i. let z = o.numbers k i in (z.0, omega (arith, z.1));
        single = o.single;
        past = o.past;
      }

  -- ── a token ends ──
  module _ (k : LoadToken) (i : In k l.given) where
    past_more : (y : LoadToken) → In y (k ∷ l.ended) → y.generation ≤ l.generations
    past_more y j = in_case j (λ q. rw q (o.numbers k i).0) (λ n. o.past y n)

    pub orderly_aborted : (p : Held → Bool) → Orderly (ends l k (keep p l.held))
    orderly_aborted p =
        let w = orderly_keep p in
        record { apart = w.apart; inside = w.inside; dated = w.dated; numbers = o.numbers; single = o.single; past = past_more }

    pub orderly_published : (key : CacheKey) → Orderly (ends l k (map (clean_one key) l.held))
    orderly_published key =
        record {
          apart = apart_map (clean_one key) l.held (λ a b i j d. clean_differ key a b d) o.apart;
          inside = λ h j. let q = map_in (clean_one key) l.held h j in rw q.2 (by_clean key q.0 (λ y. y.slot < l.capacity) (o.inside q.0 q.1) (o.inside q.0 q.1));
          dated = λ h j. let q = map_in (clean_one key) l.held h j in rw q.2 (by_clean key q.0 (λ y. y.last ≤ l.uses) (o.dated q.0 q.1) (o.dated q.0 q.1));
          numbers = o.numbers;
          single = o.single;
          past = past_more;
        }

  -- ── a key comes ──
  pub orderly_reserves : (key : CacheKey) (x : ℕ) → x < l.capacity → ((h : Held) → In h l.held → h.key ≡ key → ⊥) → Orderly (reserves l key x (keep (not_in_held x) l.held))
  unfolding reserves next_token
  orderly_reserves key x hx out =
      let none_such : (k : LoadToken) → In k l.given → k.generation ≡ l.generations + 1 → ⊥ = λ k i q. let z = (o.numbers k i).0 in omega arith in
      record {
        apart = (
          λ g i. let q = keep_in (not_in_held x) l.held g i in
              (λ e. out g q.0 (sym e), λ e. false≢true (sym (rw (eq-eqb g.slot x (sym e)) refl) ∙ q.1), λ e. let z = o.dated g q.0 in omega arith),
          apart_keep (not_in_held x) l.held o.apart,
        );
        inside = λ g i. in_case i (λ q. rw q hx) (λ n. o.inside g (keep_in (not_in_held x) l.held g n).0);
        dated = λ g i. in_case i (λ q. rw q (omega arith)) (λ n. omega (arith, o.dated g (keep_in (not_in_held x) l.held g n).0));
        numbers = λ k i. in_case i (λ q. rw q (omega arith, omega arith)) (λ n. let z = o.numbers k n in (omega arith, omega arith));
        single = λ k y i j q.
            in_case i (λ a. in_case j (λ b. a ∙ sym b) (λ b. absurd (none_such y b (sym q ∙ ap (λ (z : LoadToken). z.generation) a))))
            (λ a. in_case j (λ b. absurd (none_such k a (q ∙ ap (λ (z : LoadToken). z.generation) b))) (λ b. o.single k y a b q));
        past = λ k i. let z = o.past k i in omega arith;
      }

  -- ── keys move ──
  pub orderly_remakes : (c : ℕ) (list : List ℕ) → ((h : Held) → In h l.held → stays list h ≡ true → get_or list h.slot NONE < c)
      → ((h g : Held) → In h l.held → In g l.held → stays list h ≡ true → stays list g ≡ true → get_or list h.slot NONE ≡ get_or list g.slot NONE → h.key ≡ g.key) → Orderly (remakes l c list)
  unfolding remakes moved_one
  orderly_remakes c list low one =
      let f : Held → Held = moved_one list in
      let left : List Held = keep (stays list) l.held in
      let was : (g : Held) → In g (map f left) → (h : Held) × In h l.held × (stays list h ≡ true) × (g ≡ f h) = λ g i. let p = map_in f left g i in let q = keep_in (stays list) l.held p.0 p.1 in (p.0, q.0, q.1, p.2) in
      record {
        apart = apart_map f left (λ a b i j d.
            let p = keep_in (stays list) l.held a i in
            let q = keep_in (stays list) l.held b j in
            (d.0, λ e. d.0 (one a b p.0 q.0 p.1 q.1 e), d.2))
            (apart_keep (stays list) l.held o.apart);
        inside = λ g i. let (h, j, s, q) = was g i in rw q (low h j s);
        dated = λ g i. let (h, j, s, q) = was g i in rw q (o.dated h j);
        numbers = o.numbers;
        single = o.single;
        past = o.past;
      }
