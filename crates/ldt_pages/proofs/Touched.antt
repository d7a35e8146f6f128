-- A page of the LDT is touched, or not: all that is said of it, by the steps and calls.
use Rattle.std.proofs.Common.{◌≡◌, ◌≢◌, ℕ, ◌+◌, true, false, [], None, Ok, Err, ap, ◌∙◌, subst, inl}
use Rattle.xp_words.specs.declared.context.LdtBase.{LdtBase}
use Rattle.xp_words.specs.declared.place.Place.TheVariants.{Vcpu}
use Rattle.xp_words.specs.declared.reply.Refusal.TheVariants as refusals
use Rattle.xp_words.specs.declared.reply.Stop.TheVariants.{Refused}
use Rattle.xp_board.specs.declared.step.Act.TheVariants.{Load}
use Rattle.xp_board.specs.declared.step.StepKind.TheVariants as kinds
use Rattle.xp_board.specs.Told.{Post, PortValue}
use Rattle.step_maker.specs.Holds.{Rests, Same, quiet}
use Rattle.step_maker.specs.Moves.{Came, Met, Moves}
use Rattle.step_maker.proofs.Coming.{came_trans, moves_came}
use Rattle.step_maker.specs.Answers.{Serves, Stops}
use Rattle.step_maker.specs.Finding.{FoundAt}
use Rattle.step_maker.proofs.Changing.{found_before, moves_found}
use Rattle.step_maker.proofs.Piecing.{moves_serves, serves_step}
use Rattle.step_maker.proofs.Resting.{still_rests}
use Rattle.desc_pages.specs.Names.{own_domain}
use Rattle.ldt_pages.specs.Touching as touching
use Rattle.ldt_pages.specs.Touching.{FoundBase, FoundPage, LdtTouched, is_beyond, of_touch, touch_address}
use Rattle.ldt_pages.proofs.Asking.{beyond_numbers}

-- ---- the page is beyond the end
module _ {v : PortValue} {page : ℕ} (rests : Rests v) (warm : v.holdings.cold ≡ false) where
  pub beyond : {w : PortValue} {base : ℕ} {b : LdtBase} → FoundBase v w base b → is_beyond page b ≡ true → LdtTouched v w page (Err (Refused refusals.BadRange))
  unfolding Stops
  beyond {w} {base} {b} found past =
      let same = ap quiet found.hand in
      record {
        base = base;
        frame = None;
        found = moves_found v w _ _ _ _ _ found.looks;
        serves = moves_serves v w (of_touch (own_domain v) page base) _ _ _ _ _ found.looks tt;
        stops = inl (beyond_numbers page base b found.reads past);
        kinds = tt;
        hand = same;
        rests = still_rests v w rests same;
        warm = ap (λ (q : PortValue). q.holdings.cold) found.hand ∙ warm;
        course = touching.TouchesLdt.beyond w b found past;
      }

-- ---- it is not, and its word was looked at
pub record Past (v u : PortValue) (page base : ℕ) (b : LdtBase) (word : ℕ) : Type 0 where
  pub at : FoundPage v u page base b word
  pub hand : Same v u

pub past : {v seen u : PortValue} {page base : ℕ} {b : LdtBase} {word : ℕ} → FoundBase v seen base b → is_beyond page b ≡ false → Moves seen u (Vcpu seen.post.vcpu (22 + page)) Load kinds.Look None word → Same seen u →
    Past v u page base b word
past {v} {seen} {u} {page} {word = word} found within looks same =
    record {
      at = record { seen = seen; based = found; within = within; looks = subst (λ (p : Post). Moves seen u (Vcpu p.vcpu (22 + page)) Load kinds.Look None word) (ap (λ (q : PortValue). q.post) found.hand) looks };
      hand = same ∙ found.hand;
    }

pub past_none : {v seen u : PortValue} {page base : ℕ} {b : LdtBase} {word : ℕ} → FoundBase v seen base b → is_beyond page b ≡ false → word ≡ 0 → Moves seen u (Vcpu seen.post.vcpu (22 + page)) Load kinds.Look None word → Same seen u →
    Past v u page base b 0
past_none {v} {u = u} {page} {base} {b} found within none looks same = subst (Past v u page base b) none (past found within looks same)

module _ {v u : PortValue} {page base : ℕ} {b : LdtBase} {word : ℕ} (a : Past v u page base b word) where
  pub looked_came : Came v u
  looked_came = came_trans v a.at.seen u (moves_came v a.at.seen _ _ _ _ _ a.at.based.looks) (moves_came a.at.seen u _ _ _ _ _ a.at.looks)

  pub looked_base : FoundAt (Met v u) (Vcpu v.post.vcpu 7) base
  looked_base = found_before v a.at.seen u _ _ (moves_came a.at.seen u _ _ _ _ _ a.at.looks) (moves_found v a.at.seen _ _ _ _ _ a.at.based.looks)

  pub looked_serves : Serves v u (of_touch (own_domain v) page base) []
  looked_serves =
      let r = of_touch (own_domain v) page base in
      serves_step v a.at.seen u r [] _ _ _ _ _ (moves_serves v a.at.seen r _ _ _ _ _ a.at.based.looks tt) a.at.looks tt

  -- it names a frame
  pub held : Rests v → v.holdings.cold ≡ false → word ≢ 0 → LdtTouched v u page (Ok tt)
  held rests warm some =
      let same = ap quiet a.hand in
      record {
        base = base;
        frame = None;
        found = looked_base;
        serves = looked_serves;
        stops = tt;
        kinds = tt;
        hand = same;
        rests = still_rests v u rests same;
        warm = ap (λ (q : PortValue). q.holdings.cold) a.hand ∙ warm;
        course = touching.TouchesLdt.held u b word a.at some;
      }
