-- A look at an entry of a table in the own works: the frame that it asks is asked of the call.
use Rattle.std.proofs.Common.{◌≡◌, ℕ, ◌&&◌, not, if◌then◌else◌, arith, true, List, [], Option, Some, None, refl, sym, ap, ◌∙◌, subst, inl}
use Rattle.xp_words.specs.Entries.{demand_at}
use Rattle.xp_words.specs.KindWords.{kind_fields}
use Rattle.xp_words.specs.PageTypes.{is_table}
use Rattle.xp_words.specs.declared.entry.Demand.TheVariants as demands
use Rattle.xp_words.specs.declared.kind.PageType.{PageType}
use Rattle.xp_words.specs.declared.place.Place.TheVariants.{Cell}
use Rattle.xp_words.specs.declared.reply.Refusal.TheVariants.{Reserved}
use Rattle.xp_words.specs.declared.reply.Stop.TheVariants.{Refused}
use Rattle.xp_board.specs.declared.holdings.Holdings.{Holdings}
use Rattle.xp_board.specs.declared.holdings.Work.{Work}
use Rattle.xp_board.specs.declared.step.Act.TheVariants.{Load}
use Rattle.xp_board.specs.declared.step.StepKind.TheVariants as kinds
use Rattle.xp_board.specs.After.{learned_work}
use Rattle.xp_board.specs.Hands.{lock_on, work_on}
use Rattle.xp_board.specs.Told.{PortValue}
use Rattle.xp_board.proofs.Learned.{learned_frame}
use Rattle.xp_board.proofs.ListCounts.{first_by-cons_here}
use Rattle.step_maker.specs.Moves.{Met}
use Rattle.step_maker.proofs.Coming.{moment_of, moves_met}
use Rattle.step_maker.specs.Answers.{Serves, Stops}
use Rattle.step_maker.specs.Asked.{Asked, IsDemandOf, NoMore, demand_by, demand_held, demanded, entry_owner}
use Rattle.step_maker.specs.Finding.{FoundWith}
use Rattle.step_maker.proofs.Piecing.{moves_serves}
use Rattle.table_entries.specs.Asking.{LooksOnly, of_entries}
use Rattle.table_entries.specs.Between.{SeesEntry}
use Rattle.table_entries.specs.Tops.{WorksAtTop}
use Rattle.table_entries.proofs.HandLists.{none_before}
use Rattle.table_entries.proofs.PiecesTaking.{Goes, looks_step}

-- the newest of the own works is the one on that frame
module _ (f n : ℕ) (t : PageType) (h : Holdings) (on : WorksAtTop f t n h) where
  pub top_here : work_on f h.works ≡ Some on.top
  top_here = ap (λ (ws : List Work). work_on f ws) on.works ∙ first_by-cons_here (λ (y : Work). y.frame) f on.top on.others on.frame

  pub held_demand : (i w : ℕ) → demand_held f i w h ≡ Some (demand_at t i w)
  held_demand i w =
      ap (λ o. demand_by i w o (lock_on f h.locks)) top_here
      ∙ ap (λ k. if is_table k && not (kind_fields on.top.word).unflushed then Some (demand_at k i w) else None) on.kind
      ∙ ap (λ b. if is_table t && not b then Some (demand_at t i w) else None) on.unmarked
      ∙ ap (λ b. if b && true then Some (demand_at t i w) else None) on.table

  held_owner : (owner pages : ℕ) → owner ≡ entry_owner (of_entries owner pages) (work_on f h.works) (lock_on f h.locks)
  held_owner owner pages = sym (ap (λ o. entry_owner (of_entries owner pages) o (lock_on f h.locks)) top_here)

module _ {b u : PortValue} {f i : ℕ} {t : PageType} {word : ℕ} (looks : SeesEntry b u f i t word) where
  pub look_found : FoundWith (Met b u) (Cell f i) word b.holdings
  unfolding moment_of
  look_found =
      record { moment = moment_of b (Cell f i) Load kinds.Look None word; was = moves_met b u (Cell f i) Load kinds.Look None word looks.look; place = refl; word = refl; hand = refl }

  pub look_serves : (owner pages : ℕ) → Serves b u (of_entries owner pages) []
  look_serves owner pages = moves_serves b u (of_entries owner pages) (Cell f i) Load kinds.Look None word looks.look (inl refl)

  pub look_only : LooksOnly b u f i
  look_only = looks_step b u f i (Cell f i) Load kinds.Look None word looks.look (λ g j at. cell_is g j at)
    where
      cell_is : (g j : ℕ) → Cell f i ≡ Cell g j → (g ≡ f) × (j ≡ i)
      cell_is g j at = (let same = at in cc, let same = at in cc)

  pub looked_goes : (owner pages : ℕ) → Goes b u f i owner pages []
  looked_goes owner pages = record { serves = look_serves owner pages; looks = look_only }

  -- nothing came into the hand
  pub look_more : (owner pages : ℕ) → NoMore (of_entries owner pages) u.holdings b.holdings
  look_more owner pages g =
      record {
        refs = λ away. rw (ap (λ (x : PortValue). x.holdings.refs) looks.hand) (omega arith);
        works = λ away.
            none_before (λ (y : Work). y.frame) g f (learned_work i word) b.holdings.works (learned_frame i word) (ap (λ (x : PortValue). work_on g x.holdings.works) (sym looks.hand) ∙ away);
        typed = λ off. absurd cc;
      }

  module _ {n : ℕ} (owner pages : ℕ) (on : WorksAtTop f t n b.holdings) where
    pub look_asks : (g : ℕ) (want : Option PageType) → IsDemandOf g want (Some (demand_at t i word)) → Asked b.post.machine b.post.vcpu (of_entries owner pages) (Met b u) g owner want
    look_asks g want is =
        demanded f i word b.holdings refl look_found (subst (IsDemandOf g want) (sym (held_demand f n t b.holdings on i word)) is) (held_owner f n t b.holdings on owner pages)

    pub asks_plain : (g : ℕ) → demand_at t i word ≡ demands.Read g → Asked b.post.machine b.post.vcpu (of_entries owner pages) (Met b u) g owner None
    asks_plain g is = look_asks g None (rw is (refl, tt))

    pub asks_typed : (g : ℕ) (want : PageType) → demand_at t i word ≡ demands.Typed g want → Asked b.post.machine b.post.vcpu (of_entries owner pages) (Met b u) g owner (Some want)
    asks_typed g want is = look_asks g (Some want) (rw is (refl, refl))

    -- the entry asks what none may
    pub look_bad : demand_at t i word ≡ demands.Bad → Stops b u (of_entries owner pages) (Refused (Reserved f i word))
    unfolding Stops
    look_bad is = inl (b.holdings, refl, look_found, held_demand f n t b.holdings on i word ∙ ap (λ d. Some d) is)
