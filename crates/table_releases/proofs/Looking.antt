-- The look at the last recorded entry, and the hand once that is shed.
use Rattle.std.proofs.Common.{◌≡◌, ℕ, ◌<◌, Bool, true, false, ◌∷◌, Some, None, refl, ap, ◌∙◌}
use Rattle.xp_words.specs.Entries.{demand_at}
use Rattle.xp_words.specs.declared.entry.Demand.{Demand}
use Rattle.xp_words.specs.declared.entry.Demand.TheVariants.{Bad, Nothing, Read, Typed}
use Rattle.xp_words.specs.declared.kind.PageType.{PageType}
use Rattle.xp_words.specs.declared.place.Place.TheVariants.{Cell, Refs}
use Rattle.xp_words.specs.Places.{sizes_of}
use Rattle.xp_board.specs.declared.holdings.Holdings.{Holdings}
use Rattle.xp_board.specs.declared.holdings.Work.{Work}
use Rattle.xp_board.specs.After.{learned_last, learned_work}
use Rattle.xp_board.specs.Hands.{brought, brought_as, changed_work, work_on}
use Rattle.xp_board.specs.Recorded.{entry_demand}
use Rattle.xp_board.specs.Settling.{demand_in, is_settled}
use Rattle.xp_board.specs.Told.{PortValue}
use Rattle.xp_board.proofs.Learned.{learned_frame}
use Rattle.xp_board.proofs.ListChanges.{first_by-changed_here}
use Rattle.xp_board.proofs.ListCounts.{first_by-cons_here}
use Rattle.xp_board.proofs.WorkFacts.{work_word, works_facts}
use Rattle.step_maker.specs.Holds.{Holds, still}
use Rattle.table_words.specs.Entries.{entry_shed, ShedsLast}
use Rattle.table_words.proofs.EntryHands.{shed_left}
use Rattle.table_entries.specs.Tops.{with_recorded}
use Rattle.table_entries.proofs.HandReady.{unmarked_learns}
use Rattle.table_entries.proofs.LastEntry.{SeenLast, finds_inside, finds_plain, learned_seen, seen_sheds}
use Rattle.table_releases.specs.Between.{SeesLast}
use Rattle.table_releases.specs.Tops.{IsSettledTop}
use Rattle.xp_board.specs.declared.step.Act.TheVariants.{Load}
use Rattle.xp_board.specs.declared.step.Mark.TheVariants.{Shed}
use Rattle.xp_board.proofs.Numbers.{refs_there}
use Rattle.step_maker.specs.Moves.{May}
use Rattle.xp_board.specs.declared.step.StepKind.TheVariants as kinds

module _ {b v : PortValue} {f i : ℕ} {t : PageType} {word : ℕ} (l : SeesLast b v f i t word) where
  pub top_here : work_on f b.holdings.works ≡ Some l.works.top
  top_here = ap (λ ws. work_on f ws) l.works.works ∙ first_by-cons_here (λ (y : Work). y.frame) f l.works.top l.works.others l.works.frame

  -- the entry that was found is the one that is recorded
  looked_asks : entry_demand l.look.finds.words f i ≡ demand_at t i word
  looked_asks =
      let finds = l.look.finds in
      let mine : work_on f (finds.hands b.post.vcpu).works ≡ Some l.works.top = ap (λ (u : Holdings). work_on f u.works) finds.mine ∙ top_here in
      let facts = works_facts b.post.machine finds.words finds.hands b.post.vcpu f l.works.top finds.sound finds.real mine in
      ap (λ k. demand_at k.kind i (finds.words (Cell f i))) (work_word b.post.machine finds.words finds.hands b.post.vcpu f l.works.top facts)
      ∙ ap (λ k. demand_at k i (finds.words (Cell f i))) l.works.kind ∙ ap (λ w. demand_at t i w) finds.word

  -- what it names is a frame of the machine
  pub plain_there : (g : ℕ) → demand_at t i word ≡ Read g → g < b.post.machine.frames
  plain_there g asks =
      finds_plain l.look.finds f i t l.works.top top_here l.works.kind l.works.table l.works.recorded g (looked_asks ∙ asks)

  pub typed_there : (g : ℕ) (want : PageType) → demand_at t i word ≡ Typed g want → g < b.post.machine.frames
  typed_there g want asks =
      finds_inside l.look.finds f i t l.works.top top_here l.works.kind l.works.table l.works.recorded g want (looked_asks ∙ asks)

  abbrev pub looked_seen : SeenLast f i t word v.holdings
  looked_seen =
      learned_seen f i t word l.works.top v.holdings
      (ap (λ (q : PortValue). work_on f q.holdings.works) l.hand ∙ first_by-changed_here (λ (y : Work). y.frame) f (learned_work i word) b.holdings.works l.works.top (λ y. learned_frame i word y) top_here) l.works.kind l.works.table
      l.works.unmarked l.works.recorded

  pub looked_settled : IsSettledTop b.holdings → looked_seen.work.unsettled ≡ None
  looked_settled settled =
      ap (λ (y : Work). y.unsettled) (unmarked_learns i word l.works.top l.works.unmarked) ∙ ap (λ o. learned_last i l.works.top.recorded word o) (settled l.works.top l.works.others l.works.works)

-- ---- shed
module _ (v w : PortValue) {f i : ℕ} {t : PageType} {word : ℕ} (l : SeenLast f i t word v.holdings) (shed : Holds v w (entry_shed v.post.machine f i v.holdings)) where
  -- whether its frame is known live
  abbrev pub shed_sure : Bool
  shed_sure = is_settled (sizes_of v.post.machine) v.holdings l.work

  abbrev shed_by : Demand → Holdings
  shed_by d = record (demand_in shed_sure d v.holdings) { works = changed_work f (λ x. record x { recorded = i; unsettled = None }) v.holdings.works }

  shed_hand : (d : Demand) → demand_at t i word ≡ d → Holds v w (shed_by d)
  shed_hand d asks =
      shed ∙ ap (λ (h : Holdings). still (record v { holdings = h })) (shed_left v.post.machine f i v.holdings (seen_sheds f i t word v.holdings l))
      ∙ ap (λ k. still (record v { holdings = shed_by (demand_at k i word) })) l.kind
      ∙ ap (λ k. still (record v { holdings = shed_by k })) asks

  pub shed_nothing : demand_at t i word ≡ Nothing → Holds v w (with_recorded f i None v.holdings)
  shed_nothing asks = shed_hand Nothing asks

  pub shed_bad : demand_at t i word ≡ Bad → Holds v w (with_recorded f i None v.holdings)
  shed_bad asks = shed_hand Bad asks

  pub shed_plain : (g : ℕ) → demand_at t i word ≡ Read g → Holds v w (record (with_recorded f i None v.holdings) { refs = brought g v.holdings ∷ v.holdings.refs })
  shed_plain g asks = shed_hand (Read g) asks

  pub shed_typed : (g : ℕ) (want : PageType) → demand_at t i word ≡ Typed g want →
      Holds v w (record (with_recorded f i None v.holdings) { typed = brought_as shed_sure g want v.holdings ∷ v.holdings.typed })
  shed_typed g want asks = shed_hand (Typed g want) asks ∙ by_sure shed_sure
    where
      by_sure : (sure : Bool) → still (record v { holdings = record (demand_in sure (Typed g want) v.holdings) { works = changed_work f (λ x. record x { recorded = i; unsettled = None }) v.holdings.works } })
          ≡ still (record v { holdings = record (with_recorded f i None v.holdings) { typed = brought_as sure g want v.holdings ∷ v.holdings.typed } })
      by_sure true = refl
      by_sure false = refl

-- ---- When an entry may be shed with a look at a reference word.
pub may_shed_by_owner : (v : PortValue) (t upto f : ℕ) → f < v.post.machine.frames → ShedsLast t upto v.holdings → May v (Refs f) Load kinds.Look (Some (Shed t upto))
may_shed_by_owner v t upto f frame last =
    record { place = refs_there (sizes_of v.post.machine) f frame; marked = (last.work, last.may); running = λ needs. absurd cc; spelling = tt; act = tt }
