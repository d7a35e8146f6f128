-- What a legal mark does to the hand of its vCPU: `h` before, `b` after.
use Rattle.std.proofs.Common.{◌≡◌, ℕ, ◌+◌, ◌==◌, not, length, Option, Some, None, ap, ◌∙◌}
use Rattle.xp_words.specs.Machine.{Machine}
use Rattle.xp_words.specs.Places.{sizes_of}
use Rattle.xp_board.specs.declared.step.Mark.{Mark}
use Rattle.xp_board.specs.declared.step.Mark.TheVariants as marks
use Rattle.xp_board.specs.declared.step.StepKind.{StepKind}
use Rattle.xp_board.specs.declared.step.Step.{Step}
use Rattle.xp_board.specs.declared.holdings.Work.{Work}
use Rattle.xp_board.specs.declared.holdings.Holdings.{Holdings}
use Rattle.xp_board.specs.Lists.{kept_of}
use Rattle.xp_board.specs.Hands.{work_on, changed_work}
use Rattle.xp_board.specs.Settling.{demand_in, demand_out, is_settled}
use Rattle.xp_board.specs.Marks.{LegalMark, after_mark, MayRecord, MayShed, demand_seen, unsettled_by, recorded, shed}
use Rattle.xp_board.specs.Keeping.{MayMark, Marked}

-- the next entry is recorded
pub record Recorded (n : Machine) (f upto : ℕ) (h b : Holdings) : Type 0 where
  pub e : Work
  pub may : MayRecord n f upto h e
  pub hand : b ≡ demand_out (demand_seen e.recorded e)
      (record h { works = changed_work f (λ y. record y { recorded = e.recorded + 1; unsettled = unsettled_by (sizes_of n) e h }) h.works })

-- the last recorded entry comes back into the hand
pub record Shed (n : Machine) (f upto : ℕ) (h b : Holdings) : Type 0 where
  pub e : Work
  pub may : MayShed f upto h e
  pub hand : b ≡ demand_in (is_settled (sizes_of n) h e) (demand_seen upto e)
      (record h { works = changed_work f (λ y. record y { recorded = upto; unsettled = None }) h.works })

-- the translations of a page are dropped
pub record Forgot (page : ℕ) (h b : Holdings) : Type 0 where
  pub landed : h.walk ≡ None
  pub hand : b ≡ record h { cache = kept_of (λ x. not (x.page == page)) h.cache }

pub data MarkEffect (n : Machine) (h b : Holdings) : Type 0 where
  -- no mark, the end of an answer, or the begin of a walk
  nothing : b ≡ h → MarkEffect n h b
  turned : b ≡ record h { turn = length h.steps } → MarkEffect n h b
  forgot : (page : ℕ) → Forgot page h b → MarkEffect n h b
  recorded_entry : (f upto : ℕ) → Recorded n f upto h b → MarkEffect n h b
  shed_entry : (f upto : ℕ) → Shed n f upto h b → MarkEffect n h b

record_by : (n : Machine) (f upto : ℕ) (h b : Holdings) (e : Work) → MayRecord n f upto h e → b ≡ recorded n f (work_on f h.works) h → MarkEffect n h b
record_by n f upto h b e may hand =
    recorded_entry f upto (record { e = e; may = may; hand = hand ∙ ap (λ o. recorded n f o h) may.here })

shed_by : (n : Machine) (f upto : ℕ) (h b : Holdings) (e : Work) → MayShed f upto h e → b ≡ shed n f upto (work_on f h.works) h → MarkEffect n h b
shed_by n f upto h b e may hand =
    shed_entry f upto (record { e = e; may = may; hand = hand ∙ ap (λ o. shed n f upto o h) may.here })

mark_by : (n : Machine) (kind : StepKind) (mark : Option Mark) (h b : Holdings) → LegalMark n h kind mark → b ≡ after_mark n mark h → MarkEffect n h b
mark_by n sort None h b legal hand = nothing hand
mark_by n sort (Some (marks.Cut call)) h b legal hand = nothing hand
mark_by n sort (Some (marks.Walk write)) h b legal hand = nothing hand
mark_by n sort (Some marks.Turn) h b legal hand = turned hand
mark_by n sort (Some (marks.Forget page)) h b legal hand = forgot page (record { landed = legal; hand = hand })
mark_by n sort (Some (marks.Record f upto)) h b legal hand = record_by n f upto h b legal.0 legal.1 hand
mark_by n sort (Some (marks.Shed f upto)) h b legal hand = shed_by n f upto h b legal.0 legal.1 hand

pub mark_effect : (n : Machine) (s : ℕ) (x : Step) (h b : ℕ → Holdings) → MayMark n x (h s) → Marked n s x h b → MarkEffect n (h s) (b s)
mark_effect n s x h b may marked = mark_by n x.kind x.mark (h s) (b s) may.legal marked.mine
