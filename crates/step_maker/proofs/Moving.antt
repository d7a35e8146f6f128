-- A step at a named word is the step at its number.
use Rattle.std.proofs.Common.{None, ◌≡◌, ℕ, Option, IsTrue, sym, ap, ◌∙◌, subst}
use Rattle.xp_words.specs.declared.place.Place.{Place}
use Rattle.xp_words.specs.Places.{is_place, number, run_of, sizes_of, place_at}
use Rattle.xp_words.proofs.PlaceLaws.{place_back}
use Rattle.xp_board.specs.declared.step.Act.{Act}
use Rattle.xp_board.specs.declared.step.Act.TheVariants.{Load}
use Rattle.xp_board.specs.declared.step.StepKind.TheVariants as kinds
use Rattle.xp_board.specs.declared.step.Mark.{Mark}
use Rattle.xp_board.specs.declared.step.Step.{Step}
use Rattle.xp_board.specs.declared.step.StepKind.{StepKind}
use Rattle.xp_board.specs.After.{noted, after_move}
use Rattle.xp_board.specs.Legal.{Legal, LegalMove}
use Rattle.xp_board.specs.Told.{PortValue, Finds, IsTold, own_run, stepped, tells}
use Rattle.step_maker.specs.Moves.{step_at, May, Moves}

module _ (v : PortValue) (p : Place) (a : Act) (kind : StepKind) (mark : Option Mark) (i : ℕ) (may : May v p a kind mark) (is : i ≡ number (sizes_of v.post.machine) p) where
  at : place_at (sizes_of v.post.machine) i ≡ p
  at = ap (λ j. place_at (sizes_of v.post.machine) j) is ∙ place_back (sizes_of v.post.machine) p may.place

  pub legal_there : Legal v.post.machine v.post.vcpu v.holdings (record { place = i; act = a; kind = kind; mark = mark })
  legal_there = subst (λ q. LegalMove v.post.machine v.post.vcpu v.holdings q a kind mark) (sym at) may

  pub found_there : (found : ℕ) → Finds v.post.machine v.post.vcpu v.holdings (place_at (sizes_of v.post.machine) i) found → Finds v.post.machine v.post.vcpu v.holdings p found
  found_there found finds = subst (λ q. Finds v.post.machine v.post.vcpu v.holdings q found) at finds

  step_is : ◌≡◌ {A = Step} (record { place = i; act = a; kind = kind; mark = mark }) (step_at v.post.machine p a kind mark)
  step_is = ap (λ (j : ℕ). record { place = j; act = a; kind = kind; mark = mark }) is

  pub moves_there : (w : PortValue) (found : ℕ) → Finds v.post.machine v.post.vcpu v.holdings (place_at (sizes_of v.post.machine) i) found → (place_at (sizes_of v.post.machine) i ≡ run_of v.post.vcpu → found ≡ own_run v) →
      IsTold v.post.machine v.told (place_at (sizes_of v.post.machine) i) found → w ≡ stepped v (record { place = i; act = a; kind = kind; mark = mark }) found → Moves v w p a kind mark found
  moves_there w found finds own told to =
      let hand = ap (λ (x : Step). noted x found (after_move v.post.machine v.post.vcpu v.holdings (place_at (sizes_of v.post.machine) i) a kind mark found)) step_is
      ∙ ap (λ q. noted (step_at v.post.machine p a kind mark) found (after_move v.post.machine v.post.vcpu v.holdings q a kind mark found)) at in
      record {
        may = may;
        finds = found_there found finds;
        own = λ is. own (at ∙ is);
        told = subst (λ q. IsTold v.post.machine v.told q found) at told;
        to = to ∙ ap (λ k. record { post = v.post; holdings = k; told = tells v.post.vcpu (record { place = i; act = a; kind = kind; mark = mark }) found k v.told }) hand
            ∙ ap (λ (x : Step). record { post = v.post; holdings = noted (step_at v.post.machine p a kind mark) found (after_move v.post.machine v.post.vcpu v.holdings p a kind mark found); told = tells v.post.vcpu x found (noted (step_at v.post.machine p a kind mark) found (after_move v.post.machine v.post.vcpu v.holdings p a kind mark found)) v.told }) step_is;
      }

pub may_look : (v : PortValue) (p : Place) → IsTrue (is_place (sizes_of v.post.machine) p) → May v p Load kinds.Look None
may_look v p there = record { place = there; marked = tt; running = λ needs. absurd (cc); spelling = tt; act = tt }
