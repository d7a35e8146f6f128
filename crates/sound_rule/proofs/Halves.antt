-- A legal step in its two halves: its mark, and then its act by the hand that the mark left.
use Rattle.std.proofs.Common.{◌≡◌, ◌≢◌, ℕ, ◌==◌, if◌then◌else◌, Option, Some, None, refl, sym, ap, ◌∙◌, arith, Bool}
use Rattle.std.proofs.lemmas.Bool.Decides.{nat_tests}
use Rattle.xp_words.specs.declared.entry.Demand.{Demand}
use Rattle.xp_words.specs.declared.entry.Demand.TheVariants.{Nothing, Bad, Read, Typed}
use Rattle.xp_words.specs.Machine.{Machine}
use Rattle.xp_words.specs.declared.place.Place.{Place}
use Rattle.xp_board.specs.declared.step.Mark.{Mark}
use Rattle.xp_board.specs.declared.step.Mark.TheVariants as marks
use Rattle.xp_board.specs.declared.step.Step.{Step}
use Rattle.xp_board.specs.declared.holdings.Work.{Work}
use Rattle.xp_board.specs.declared.holdings.Holdings.{Holdings}
use Rattle.xp_board.specs.Hands.{work_on}
use Rattle.xp_board.specs.Settling.{demand_in, demand_out}
use Rattle.xp_board.specs.Marks.{after_mark, recorded, shed, demand_seen}
use Rattle.xp_board.specs.Legal.{Legal}
use Rattle.xp_board.specs.Runs.{Stepped}
use Rattle.xp_board.specs.Keeping.{MayMark, Marked, MayAct, Acted}
use Rattle.xp_board.proofs.Sums.{if_itself}

-- ---- a mark leaves the own run word as the vCPU knows it
out_run : (d : Demand) (h : Holdings) → (demand_out d h).run ≡ h.run
out_run Nothing h = refl
out_run Bad h = refl
out_run (Read g) h = refl
out_run (Typed g t) h = refl

in_run : (sure : Bool) (d : Demand) (h : Holdings) → (demand_in sure d h).run ≡ h.run
in_run sure Nothing h = refl
in_run sure Bad h = refl
in_run sure (Read g) h = refl
in_run sure (Typed g t) h = refl

recorded_run : (n : Machine) (f : ℕ) (o : Option Work) (h : Holdings) → (recorded n f o h).run ≡ h.run
recorded_run n f None h = refl
recorded_run n f (Some e) h = out_run (demand_seen e.recorded e) _

shed_run : (n : Machine) (f upto : ℕ) (o : Option Work) (h : Holdings) → (shed n f upto o h).run ≡ h.run
shed_run n f upto None h = refl
shed_run n f upto (Some e) h = in_run _ (demand_seen upto e) _

mark_run : (n : Machine) (mark : Option Mark) (h : Holdings) → (after_mark n mark h).run ≡ h.run
mark_run n None h = refl
mark_run n (Some (marks.Record f upto)) h = recorded_run n f (work_on f h.works) h
mark_run n (Some (marks.Shed f upto)) h = shed_run n f upto (work_on f h.works) h
mark_run n (Some (marks.Forget page)) h = refl
mark_run n (Some (marks.Cut call)) h = refl
mark_run n (Some marks.Turn) h = refl
mark_run n (Some (marks.Walk write)) h = refl

away_by : (s t : ℕ) (y z : Holdings) → t ≢ s → (if t == s then y else z) ≡ z
away_by s t y z off = grind (arith, nat_tests)

module _ (n : Machine) (s : ℕ) (x : Step) (h : ℕ → Holdings) where
  -- the hands after the mark
  pub between : ℕ → Holdings
  between t = if t == s then after_mark n x.mark (h s) else h t

  mine : between s ≡ after_mark n x.mark (h s)
  unfolding between
  mine = if_itself s (after_mark n x.mark (h s)) (h s)

  pub marked : Marked n s x h between
  unfolding between
  marked = record { mine = mine; others = λ t off. away_by s t (after_mark n x.mark (h s)) (h t) off }

  pub may_mark : Legal n s (h s) x → MayMark n x (h s)
  may_mark legal = record { legal = legal.marked }

  pub may_act : Legal n s (h s) x → MayAct n s x (between s)
  may_act legal =
      record {
        place = legal.place;
        running = λ needs. ap (λ u. u.run) mine ∙ mark_run n x.mark (h s) ∙ legal.running needs;
        spelling = legal.spelling;
        act = rw mine legal.act;
      }

  pub acted : (m m2 : Place → ℕ) (h2 : ℕ → Holdings) → Stepped n s x m m2 h h2 → Acted n s x m m2 between h2
  acted m m2 h2 step =
      record {
        here = step.here;
        elsewhere = step.elsewhere;
        mine = rw mine step.mine;
        others = λ t off. step.others t off ∙ sym (marked.others t off);
      }
