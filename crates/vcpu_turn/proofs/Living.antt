-- How a turn begins: the own domain is one of the machine's, and a vCPU that had found it dying finds that it does not live.
use Rattle.std.proofs.Common.{◌⊎◌, ◌≡◌, ℕ, ◌<◌, ◌==◌, not, if◌then◌else◌, Bool, true, false, length, List, [], None, Some, IsTrue, refl, sym, ap, ◌∙◌, subst, inl, inr, arith}
use Rattle.std.proofs.lemmas.Bool.Decides.{nat_tests}
use Rattle.std.proofs.lemmas.List.Elements.{All-get_or}
use Rattle.xp_words.specs.Machine.{IsMachine, Machine}
use Rattle.xp_words.specs.Places.{sizes_of}
use Rattle.xp_words.specs.declared.place.Place.{Place}
use Rattle.xp_words.specs.declared.place.Place.TheVariants.{Life}
use Rattle.xp_board.specs.After.{learned_life}
use Rattle.xp_board.specs.Found.{LifeFound}
use Rattle.xp_board.specs.Hands.{IsEmptyHand}
use Rattle.xp_board.specs.Lists.{kept_of}
use Rattle.xp_board.specs.Marks.{after_mark}
use Rattle.xp_board.specs.Readings.{domain_of}
use Rattle.xp_board.specs.Steps.{some_since}
use Rattle.xp_board.specs.Told.{Post, PortValue, own_run}
use Rattle.xp_board.specs.declared.holdings.Holdings.{Holdings}
use Rattle.xp_board.specs.declared.holdings.Looking.{Looking}
use Rattle.xp_board.specs.declared.step.Mark.TheVariants.{Turn}
use Rattle.xp_board.specs.declared.step.Act.TheVariants.{Load}
use Rattle.xp_board.specs.declared.step.StepKind.TheVariants as kinds
use Rattle.xp_board.proofs.StepLists.{found_since}
use Rattle.step_maker.specs.Holds.{FlushedHolds, Holds, Rests, Same}
use Rattle.step_maker.specs.Moves.{Came, Moves}
use Rattle.step_maker.proofs.Coming.{came_post, came_trans, moves_came}
use Rattle.step_maker.proofs.Warming.{came_warm}
use Rattle.step_maker.proofs.Resting.{bare, empty_as}
use Rattle.flush_words.proofs.Lasting.{came_keeps}
use Rattle.vcpu_turn.specs.Destroying.{KnowsDying}
use Rattle.vcpu_turn.specs.Settling.{IsWarm}
use Rattle.vcpu_turn.specs.Turning.{Idles, Runs}
use Rattle.foreign_map.proofs.Admitting.{nothing_learned as learned_nothing}

own_real : (n : Machine) (s : ℕ) → IsMachine n → s < (sizes_of n).vcpus → domain_of n s < length n.page_limit
own_real n s k real = All-get_or (λ d. d < length n.page_limit) n.vcpu_domain s 0 real k.of_domains

-- as a port knows that made a step
pub own_counted : (v u w : PortValue) (d : ℕ) → Came v u → Came u w → IsMachine v.post.machine → d ≡ domain_of v.post.machine v.post.vcpu → u.post.vcpu < (sizes_of u.post.machine).vcpus → d < length w.post.machine.page_limit
own_counted v u w d first later machine own real =
    subst (λ (q : Post). d < length q.machine.page_limit) (sym (came_post u w later ∙ came_post v u first))
    (subst (λ x. x < length v.post.machine.page_limit) (sym own) (own_real v.post.machine v.post.vcpu machine (subst (λ (q : Post). q.vcpu < (sizes_of q.machine).vcpus) (came_post v u first) real)))

-- what it had found it still did
pub knows_dying_on : (v w : PortValue) (d : ℕ) → Came v w → KnowsDying v d → KnowsDying w d
knows_dying_on v w d came knows =
    subst (λ (q : Post). IsTrue (some_since (sizes_of q.machine) 0 (Life d) (λ y. not (y == 0)) w.holdings.steps)) (sym (came_post v w came)) (came_keeps v w _ came knows)

not_alive : (y : ℕ) → not (y == 0) ≡ true → y ≡ 0 → ⊥
not_alive y off is = let t : not (y == 0) ≡ false = grind (arith, nat_tests, is) in cc

-- so the domain does not live
pub still_dead : (v w : PortValue) (d found : ℕ) → KnowsDying v d → Moves v w (Life d) Load kinds.Look None found → found ≡ 0 → ⊥
still_dead v w d found knows m is =
    let life : LifeFound (sizes_of v.post.machine) m.finds.words v.holdings =
    subst (λ (h : Holdings). LifeFound (sizes_of v.post.machine) m.finds.words h) m.finds.mine (m.finds.sound.found v.post.vcpu m.finds.real).life in
    let word = m.finds.word in
    found_since (sizes_of v.post.machine) 0 (Life d) (λ y. not (y == 0)) _ v.holdings.steps (life d) knows
    (λ y off holds. elim (holds (not_alive y off)) [
      | inl same ↦ not_alive y off (sym same ∙ word ∙ is)
      | inr dead ↦ omega (arith, dead, word, is)
    ])

-- ---- what is in hand behind the look at a life word
pub learned_ran : (d found : ℕ) (h : Holdings) → (learned_life d found h).ran ≡ h.ran
learned_ran d found h = by (found == 0)
  where
    by : (b : Bool) → (if b then record h { looking = kept_of (λ (e : Looking). not (e.owner == d)) h.looking } else h).ran ≡ h.ran
    by true = refl
    by false = refl

-- a vCPU with nothing in hand has none then either
module _ (v a u w : PortValue) (run d life : ℕ) (ack : FlushedHolds v a (after_mark v.post.machine (Some Turn) v.holdings)) (own : Holds a u (record a.holdings { run = Some run })) (lives : Holds u w (learned_life d life u.holdings)) (idles : Idles v) where
  woken_empty : IsEmptyHand u.holdings
  woken_empty =
      record {
        refs = ap (λ (y : PortValue). y.holdings.refs) own ∙ ap (λ (y : PortValue). y.holdings.refs) ack ∙ idles.empty.refs;
        typed = ap (λ (y : PortValue). y.holdings.typed) own ∙ ap (λ (y : PortValue). y.holdings.typed) ack ∙ idles.empty.typed;
        works = ap (λ (y : PortValue). y.holdings.works) own ∙ ap (λ (y : PortValue). y.holdings.works) ack ∙ idles.empty.works;
        locks = ap (λ (y : PortValue). y.holdings.locks) own ∙ ap (λ (y : PortValue). y.holdings.locks) ack ∙ idles.empty.locks;
        ending = ap (λ (y : PortValue). y.holdings.ending) own ∙ ap (λ (y : PortValue). y.holdings.ending) ack ∙ idles.empty.ending;
        claimed = ap (λ (y : PortValue). y.holdings.claimed) own ∙ ap (λ (y : PortValue). y.holdings.claimed) ack ∙ idles.empty.claimed;
        raised = ap (λ (y : PortValue). y.holdings.raised) own ∙ ap (λ (y : PortValue). y.holdings.raised) ack ∙ idles.empty.raised;
        credits = ap (λ (y : PortValue). y.holdings.credits) own ∙ ap (λ (y : PortValue). y.holdings.credits) ack ∙ idles.empty.credits;
        looking = ap (λ (y : PortValue). y.holdings.looking) own ∙ ap (λ (y : PortValue). y.holdings.looking) ack ∙ idles.empty.looking;
      }

  woken_same : Same u w
  woken_same = lives ∙ ap (λ (h : Holdings). record { post = u.post; holdings = record h { steps = [] }; told = None }) (learned_nothing d life u.holdings woken_empty.looking)

  woken_hand : IsEmptyHand w.holdings
  woken_hand = empty_as w.holdings u.holdings (ap (λ (y : PortValue). bare y.holdings) woken_same) woken_empty

  woken_walk : w.holdings.walk ≡ None
  woken_walk = ap (λ (y : PortValue). y.holdings.walk) woken_same ∙ ap (λ (y : PortValue). y.holdings.walk) own ∙ ap (λ (y : PortValue). y.holdings.walk) ack ∙ idles.no_walk

  woken_machine : IsMachine w.post.machine
  woken_machine =
      let same : w.post ≡ v.post = ap (λ (y : PortValue). y.post) woken_same ∙ ap (λ (y : PortValue). y.post) own ∙ ap (λ (y : PortValue). y.post) ack in
      subst (λ (q : Post). IsMachine q.machine) (sym same) idles.machine

  pub woken_idles : IsWarm w → Idles w
  woken_idles warm = record { empty = woken_hand; no_walk = woken_walk; machine = woken_machine; warm = warm }

  -- and it may work where it runs
  pub woken_rests : run ≡ own_run a → Runs v → Rests w
  woken_rests is runs =
      record {
        may = record {
          running = ap (λ (y : PortValue). y.holdings.run) woken_same ∙ ap (λ (y : PortValue). y.holdings.run) own ∙ ap (λ x. Some x) (is ∙ ap (λ (y : PortValue). own_run y) ack ∙ runs);
          no_walk = woken_walk;
          machine = woken_machine;
        };
        empty = woken_hand;
      }

-- where the domain lives it runs
pub runs_alive : (v u w : PortValue) (d found : ℕ) → Runs v ⊎ KnowsDying v d → Came v u → Moves u w (Life d) Load kinds.Look None found → found ≡ 0 → Runs v
runs_alive v u w d found (inl runs) came m is = runs
runs_alive v u w d found (inr knows) came m is = absurd (still_dead u w d found (knows_dying_on v u d came knows) m is)

-- and it stays warm
pub begun_warm : (v a u w : PortValue) (p : Place) (run d life : ℕ) → Came v a → FlushedHolds v a (after_mark v.post.machine (Some Turn) v.holdings) → Moves a u p Load kinds.Look None run → Holds a u (record a.holdings { run = Some run }) →
    Moves u w (Life d) Load kinds.Look None life → Holds u w (learned_life d life u.holdings) → IsWarm v → IsWarm w
begun_warm v a u w p run d life came ack looks own moves lives warm =
    came_warm v w (came_trans v a w came (came_trans a u w (moves_came a u _ _ _ _ _ looks) (moves_came u w _ _ _ _ _ moves)))
    (ap (λ (y : PortValue). y.holdings.ran) lives ∙ learned_ran d life u.holdings ∙ ap (λ (y : PortValue). y.holdings.ran) own ∙ ap (λ (y : PortValue). y.holdings.ran) ack) warm
