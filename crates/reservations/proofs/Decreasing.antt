-- Frames that are given back one by one: what one more adds, and why it stops.
use Rattle.std.proofs.Common.{◌≡◌, ℕ, ◌+◌, ◌-◌, ◌^◌, ◌<◌, ◌≤◌, ◌==◌, ◌&&◌, nat_le, nat_lt, suc, true, List, [], ◌∷◌, ◌++◌, Option, None, Result, Ok, Err, IfErr, IsTrue, refl, sym, ap, ◌∙◌, subst, arith, rules, inl, inr}
use Rattle.std.proofs.lemmas.Bool.{cases_order, eqb-true}
use Rattle.std.proofs.lemmas.Bool.Decides.{nat_tests}
use Rattle.xp_words.specs.Machine.{Machine}
use Rattle.xp_words.specs.declared.reply.Pause.TheVariants.{Lost}
use Rattle.xp_words.specs.declared.reply.Refusal.TheVariants.{NoFrame, WrongOwner}
use Rattle.xp_words.specs.declared.reply.Refusal.{Refusal}
use Rattle.xp_words.specs.declared.reply.Stop.{Stop}
use Rattle.xp_words.specs.declared.reply.Stop.TheVariants.{Refused, Paused}
use Rattle.xp_words.specs.declared.place.Place.TheVariants.{Refs}
use Rattle.xp_board.specs.Told.{Post, PortValue, is_telling, told_word}
use Rattle.step_maker.specs.Holds.{Same}
use Rattle.step_maker.specs.Plain.{Words}
use Rattle.step_maker.specs.Moves.{Came, Met}
use Rattle.step_maker.proofs.Telling.{came_telling}
use Rattle.step_maker.proofs.Coming.{came_post, met_after}
use Rattle.step_maker.specs.Twins.{AnswersAs, Twin}
use Rattle.step_maker.specs.Answers.{Deed, Returns, Serves, Stops, missed}
use Rattle.step_maker.specs.Asked.{Within, of_return, named}
use Rattle.step_maker.specs.Visits.{Does}
use Rattle.step_maker.proofs.Visiting.{does_then}
use Rattle.step_maker.proofs.Grown.{grown_by}
use Rattle.step_maker.proofs.Later.{IsUncounted, stops_later}
use Rattle.step_maker.proofs.Piecing.{serves_came, serves_inner, serves_nothing}
use Rattle.frame_claims.proofs.Listing.{up_more, up_none}
use Rattle.reservations.specs.Returning.{AllReturnBy, DecreasesBy, DecreasesPlainly, IsReturnStop, ReturnsBy, all_returned, next_refusal, number_at, of_returns, return_refusal, returned, returned_deeds, returns_deeds}

-- ---- the frames that are asked
is_named : (first size f : ℕ) → first ≤ f → f < first + size → IsTrue (nat_le first f && nat_lt f (first + size))
is_named first size f low high = grind (arith, nat_tests)

within_returns : (v u w : PortValue) (owner size first f : ℕ) → first ≤ f → f < first + size → Came v u →
    Within v.post.machine v.post.vcpu (of_return f owner) (Met u w) (of_returns owner size first) (Met v w)
within_returns v u w owner size first f low high came =
    grown_by _ _ (of_return f owner) (of_returns owner size first) (Met u w) (Met v w) (λ m a. met_after v u w m came a) (search rules) (record { owner = refl; pages_of = refl })
    (λ g is k wants. named (names g is) refl wants) (λ naming g is. names g is) (λ g none. absurd cc)
  where
    names : (g : ℕ) → IsTrue (g == f) → IsTrue (nat_le first g && nat_lt g (first + size))
    names g is = subst (λ h. IsTrue (nat_le first h && nat_lt h (first + size))) (sym (eqb-true g f is)) (is_named first size f low high)

-- ---- what was given back so far
-- From v to w those with numbers `from` to below `to` of the extent were given back, and that is the answer then.
pub record Decreases (v w : PortValue) (owner size first from to : ℕ) (answer : Result (Unit {0}) Stop) : Type 0 where
  pub low : from ≤ to
  pub serves : Serves v w (of_returns owner size first) (returns_deeds v.post.machine first from to answer)
  pub stops : IfErr answer (λ e. Stops v w (of_returns owner size first) e)
  pub kinds : IfErr answer IsReturnStop
  pub hand : Same v w
  pub found : Does v w (λ vs. DecreasesBy v.post.machine owner first from to answer vs)
  pub plain : is_telling v ≡ true → DecreasesPlainly v.post.machine owner first from to (told_word v) w answer

pub nothing_decreased : (v : PortValue) (owner size first from : ℕ) → Decreases v v owner size first from from (Ok tt)
nothing_decreased v owner size first from =
    let none : from - from ≡ 0 = omega arith in
    record {
      low = omega arith;
      serves = rw none (serves_nothing v (of_returns owner size first));
      stops = tt;
      kinds = tt;
      hand = refl;
      found = up_none (λ i vs. ReturnsBy v.post.machine owner (number_at first i) (Ok tt) vs) from v;
      plain = λ telling. record { may = λ k below. absurd (omega (arith, below)); leaves = rw none (λ q. refl); ends = tt };
    }

-- ---- one more
given_real : (n : Machine) (owner f x : ℕ) → return_refusal n owner f x ≡ None → f < n.frames
given_real n owner f x none = grind (arith, nat_tests)

does_real : (v w : PortValue) (n : Machine) (owner f : ℕ) → Does v w (λ vs. ReturnsBy n owner f (Ok tt) vs) → f < n.frames
unfolding Does
does_real v w n owner f does = given_real n owner f does.2.0 does.2.1

uncounted : (e : Stop) → IsReturnStop e → IsUncounted e
uncounted (Refused (NoFrame f)) kind = tt
uncounted (Refused (WrongOwner f found)) kind = tt
uncounted (Paused (Lost place expected found)) kind = tt
uncounted _ kind = absurd kind

module _ {v u : PortValue} {owner size first from at : ℕ} (so : Decreases v u owner size first from at (Ok tt)) (w : PortValue) {f : ℕ} (is : f ≡ number_at first at) (low : at < size) (small : first < 2 ^ 64) where
  came : Came v u
  came = serves_came v u (of_returns owner size first) _ so.serves

  post : u.post ≡ v.post
  post = came_post v u came

  within : Within v.post.machine v.post.vcpu (of_return f owner) (Met u w) (of_returns owner size first) (Met v w)
  within = within_returns v u w owner size first f (omega (arith, is)) (omega (arith, is)) came

  serves_more : (ds : List Deed) → Serves u w (of_return f owner) ds → Serves v w (of_returns owner size first) (ds ++ returned_deeds (first + from) (at - from))
  serves_more ds one = serves_inner v u w (of_returns owner size first) (of_return f owner) _ ds within so.serves one

  found_here : (answer : Result (Unit {0}) Stop) → Does u w (λ vs. ReturnsBy u.post.machine owner f answer vs) → Does u w (λ vs. ReturnsBy v.post.machine owner (number_at first at) answer vs)
  found_here answer one =
      subst (λ g. Does u w (λ vs. ReturnsBy v.post.machine owner g answer vs)) is (subst (λ (p : Post). Does u w (λ vs. ReturnsBy p.machine owner f answer vs)) post one)

  -- on a board that tells all words
  abbrev so_far : Words
  so_far = all_returned first from (at - from) (told_word v)

  next_is : {r : Option Refusal} → is_telling v ≡ true → return_refusal u.post.machine owner f (told_word u (Refs f)) ≡ r → next_refusal v.post.machine owner first from (at - from) (told_word v) ≡ r
  next_is telling e =
      let back : number_at first (from + (at - from)) ≡ f = ap (number_at first) (omega (arith, so.low)) ∙ sym is in
      ap (λ g. return_refusal v.post.machine owner g (so_far (Refs g))) back ∙ ap (return_refusal v.post.machine owner f) (sym ((so.plain telling).leaves (Refs f)))
      ∙ ap (λ (p : Post). return_refusal p.machine owner f (told_word u (Refs f))) (sym post) ∙ e

  module _ (few : v.post.machine.frames ≤ 65536) (serves : Serves u w (of_return f owner) (Returns f ∷ [])) (hand : Same u w) (found : Does u w (λ vs. ReturnsBy u.post.machine owner f (Ok tt) vs))
      (plain : Twin {A = Unit {0}} u w (return_refusal u.post.machine owner f (told_word u (Refs f))) (returned f (told_word u)) (Ok tt)) where
    more : at + 1 - from ≡ suc (at - from)
    more = omega (arith, so.low)

    real : f < v.post.machine.frames
    real = does_real u w v.post.machine owner f (subst (λ (p : Post). Does u w (λ vs. ReturnsBy p.machine owner f (Ok tt) vs)) post found)

    plain_more : is_telling v ≡ true → DecreasesPlainly v.post.machine owner first from (at + 1) (told_word v) w (Ok tt)
    plain_more telling =
        let before = so.plain telling in
        let now = plain (came_telling v u came ∙ telling) in
        let words : told_word u ≡ so_far = (λ i q. before.leaves q i) in
        let place : f ≡ number_at first (from + (at - from)) = is ∙ ap (number_at first) (omega (arith, so.low)) in
        record {
          may = λ k below. elim (cases_order k (at - from)) [
            | inl here ↦ subst (λ j. next_refusal v.post.machine owner first from j (told_word v) ≡ None) (sym here) (next_is telling now.0)
            | inr (inl earlier) ↦ before.may k earlier
            | inr (inr later) ↦ absurd (omega (arith, more, below, later))
          ];
          leaves = rw more (λ q. now.1 q ∙ ap (λ (m : Words). returned f m q) words ∙ ap (λ g. returned g so_far q) place);
          ends = tt;
        }

    pub one_more : Decreases v w owner size first from (at + 1) (Ok tt)
    one_more =
        record {
          low = omega (arith, so.low);
          serves = rw more (subst (λ g. Serves v w (of_returns owner size first) (Returns g ∷ returned_deeds (first + from) (at - from))) (omega (arith, is, real, few, so.low)) (serves_more (Returns f ∷ []) serves));
          stops = tt;
          kinds = tt;
          hand = hand ∙ so.hand;
          found = up_more (λ i vs. ReturnsBy v.post.machine owner (number_at first i) (Ok tt) vs) from v u w at so.found (found_here (Ok tt) found);
          plain = plain_more;
        }

  -- the next one stops
  module _ (e : Stop) (serves : Serves u w (of_return f owner) (missed u.post.machine e)) (stops : Stops u w (of_return f owner) e) (kind : IsReturnStop e) (hand : Same u w)
      (found : Does u w (λ vs. ReturnsBy u.post.machine owner f (Err e) vs))
      (plain : Twin {A = Unit {0}} u w (return_refusal u.post.machine owner f (told_word u (Refs f))) (returned f (told_word u)) (Err e)) where
    plain_ends : (x : Stop) → AnswersAs {A = Unit {0}} u w (return_refusal u.post.machine owner f (told_word u (Refs f))) (returned f (told_word u)) (Err x) → is_telling v ≡ true →
        DecreasesPlainly v.post.machine owner first from at (told_word v) w (Err x)
    plain_ends (Refused x) now telling = let before = so.plain telling in record { may = before.may; leaves = λ q. now.1 q ∙ before.leaves q; ends = next_is telling now.0 }
    plain_ends (Paused p) now telling = absurd now

    pub stopped : Decreases v w owner size first from at (Err e)
    stopped =
        record {
          low = so.low;
          serves = serves_more (missed v.post.machine e) (subst (λ (p : Post). Serves u w (of_return f owner) (missed p.machine e)) post serves);
          stops = stops_later v u w (of_returns owner size first) (of_return f owner) e (uncounted e kind) within came stops;
          kinds = kind;
          hand = hand ∙ so.hand;
          found = does_then v u w (AllReturnBy v.post.machine owner first from at) (ReturnsBy v.post.machine owner (number_at first at) (Err e)) so.found (found_here (Err e) found);
          plain = λ telling. plain_ends e (plain (came_telling v u came ∙ telling)) telling;
        }
