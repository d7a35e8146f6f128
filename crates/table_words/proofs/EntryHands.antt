-- What is in hand after an entry is recorded or shed, by what that entry asks.
use Rattle.std.proofs.Common.{◌≡◌, ℕ, if◌then◌else◌, Bool, true, false, List, length, Option, Some, None, refl, sym, ap, ◌∙◌}
use Rattle.xp_words.specs.Entries.{demand_at}
use Rattle.xp_words.specs.KindWords.{kind_fields}
use Rattle.xp_words.specs.Machine.{Machine}
use Rattle.xp_words.specs.Places.{sizes_of}
use Rattle.xp_words.specs.declared.entry.Demand.{Demand}
use Rattle.xp_words.specs.declared.entry.Demand.TheVariants.{Nothing, Bad, Read, Typed}
use Rattle.xp_board.specs.declared.holdings.Holdings.{Holdings}
use Rattle.xp_board.specs.declared.holdings.Unsettled.{Unsettled}
use Rattle.xp_board.specs.declared.holdings.Work.{Work}
use Rattle.xp_board.specs.Hands.{changed_work, work_on}
use Rattle.xp_board.specs.Marks.{demand_seen, leaves_unsettled, recorded, seen_word, shed, unsettled_by}
use Rattle.xp_board.specs.Settling.{demand_in, demand_out, is_settled}
use Rattle.xp_board.proofs.ListChanges.{first_by-changed_here}
use Rattle.table_words.specs.Entries.{RecordsNext, ShedsLast, entry_recorded, entry_shed}

-- the works change beside the references
out_beside : (d : Demand) (ws : List Work) (h : Holdings) → demand_out d (record h { works = ws }) ≡ record (demand_out d h) { works = ws }
out_beside Nothing ws h = refl
out_beside Bad ws h = refl
out_beside (Read g) ws h = refl
out_beside (Typed g t) ws h = refl

in_beside : (sure : Bool) (d : Demand) (ws : List Work) (h : Holdings) → demand_in sure d (record h { works = ws }) ≡ record (demand_in sure d h) { works = ws }
in_beside sure Nothing ws h = refl
in_beside sure Bad ws h = refl
in_beside sure (Read g) ws h = refl
in_beside true (Typed g t) ws h = refl
in_beside false (Typed g t) ws h = refl

-- whether the frame of the recorded entry has still to be found live, and since when
abbrev pub unsettled_for : Bool → ℕ → Holdings → Option Unsettled
unsettled_for true w h = Some (record { since = length h.steps; word = Some w })
unsettled_for false w h = None

-- ---- recorded
module _ (m : Machine) (f upto : ℕ) (h : Holdings) (next : RecordsNext m f upto h) where
  -- what the entry asks
  abbrev pub next_asks : Demand
  next_asks = demand_at (kind_fields next.work.word).kind next.work.recorded next.may.word

  abbrev next_work : Option Unsettled → Work → Work
  next_work u x = record x { recorded = upto; unsettled = u }

  seen_next : seen_word next.work.seen ≡ next.may.word
  seen_next = ap seen_word next.may.seen

  left_by_words : entry_recorded m f h ≡ record (demand_out next_asks h) { works = changed_work f (next_work (unsettled_by (sizes_of m) next.work h)) h.works }
  left_by_words =
      ap (λ o. recorded m f o h) next.may.here
      ∙ ap (λ n. demand_out (demand_seen next.work.recorded next.work) (record h { works = changed_work f (λ x. record x { recorded = n; unsettled = unsettled_by (sizes_of m) next.work h }) h.works })) (sym next.may.next)
      ∙ ap (λ w. demand_out (demand_at (kind_fields next.work.word).kind next.work.recorded w) (record h { works = changed_work f (next_work (unsettled_by (sizes_of m) next.work h)) h.works })) seen_next
      ∙ out_beside next_asks _ h

  unsettled_is : (b : Bool) → leaves_unsettled (sizes_of m) h next_asks ≡ b → unsettled_by (sizes_of m) next.work h ≡ unsettled_for b next.may.word h
  unsettled_is b leaves = unsettled_at b (leaves_unsettled (sizes_of m) h (demand_seen next.work.recorded next.work)) (ap (λ w. leaves_unsettled (sizes_of m) h (demand_at (kind_fields next.work.word).kind next.work.recorded w)) seen_next ∙ leaves)
    where
      unsettled_at : (b c : Bool) → c ≡ b → (if c then Some (record { since = length h.steps; word = Some (seen_word next.work.seen) }) else None) ≡ unsettled_for b next.may.word h
      unsettled_at true c is = rw is (ap (λ (w : ℕ). Some (record { since = length h.steps; word = Some w })) seen_next)
      unsettled_at false c is = rw is refl

  pub record_left : (b : Bool) → leaves_unsettled (sizes_of m) h next_asks ≡ b → entry_recorded m f h ≡ record (demand_out next_asks h) { works = changed_work f (λ x. record x { recorded = upto; unsettled = unsettled_for b next.may.word h }) h.works }
  record_left b leaves = left_by_words ∙ ap (λ u. record (demand_out next_asks h) { works = changed_work f (next_work u) h.works }) (unsettled_is b leaves)

-- ---- shed
module _ (m : Machine) (f upto : ℕ) (h : Holdings) (last : ShedsLast f upto h) where
  abbrev pub last_asks : Demand
  last_asks = demand_at (kind_fields last.work.word).kind upto last.may.word

  pub shed_left : entry_shed m f upto h ≡ record (demand_in (is_settled (sizes_of m) h last.work) last_asks h) { works = changed_work f (λ x. record x { recorded = upto; unsettled = None }) h.works }
  shed_left =
      ap (λ o. shed m f upto o h) last.may.here
      ∙ ap (λ s. demand_in (is_settled (sizes_of m) h last.work) (demand_at (kind_fields last.work.word).kind upto (seen_word s)) (record h { works = changed_work f (λ x. record x { recorded = upto; unsettled = None }) h.works })) last.may.seen
      ∙ in_beside (is_settled (sizes_of m) h last.work) last_asks _ h

  pub shed_work : work_on f (entry_shed m f upto h).works ≡ Some (record last.work { recorded = upto; unsettled = None })
  shed_work =
      ap (λ (u : Holdings). work_on f u.works) shed_left
      ∙ first_by-changed_here (λ y. y.frame) f (λ x. record x { recorded = upto; unsettled = None }) h.works last.work (λ y. refl) last.may.here
