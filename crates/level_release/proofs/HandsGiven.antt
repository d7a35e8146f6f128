-- The last recorded entry of the innermost table is looked at, or given back.
use Rattle.std.proofs.Common.{◌≡◌, ℕ, ◌+◌, ◌≤◌, List, ◌∷◌, length, Some, None, refl, sym, ap, ◌∙◌, subst, arith}
use Rattle.xp_words.specs.Places.{Sizes, sizes_of}
use Rattle.xp_board.specs.After.{learned_cell, learned_last, learned_work}
use Rattle.xp_board.specs.Hands.{changed_work}
use Rattle.xp_board.specs.Told.{PortValue}
use Rattle.xp_board.specs.declared.holdings.Holdings.{Holdings}
use Rattle.xp_board.specs.declared.holdings.Work.{Work}
use Rattle.step_maker.specs.Holds.{Holds, still}
use Rattle.step_maker.specs.Moves.{Came}
use Rattle.flush_words.proofs.Lasting.{came_longer}
use Rattle.flush_waits.proofs.Growing.{came_grows, knows_later}
use Rattle.table_entries.proofs.HandReady.{unmarked_learns}
use Rattle.partial_state.specs.declared.stack.TableWork.{TableWork}
use Rattle.table_releases.specs.Tops.{IsSettledTop, shed_once}
use Rattle.level_release.specs.Course.{one_more_done}
use Rattle.level_release.specs.Holding.{Empties, IsReleasedWork}
use Rattle.level_release.proofs.Hands.{hands_by, tables_done, tables_later, typed_later}
use Rattle.level_release.proofs.HandsApart.{FirstFound, looked_apart}
use Rattle.level_release.proofs.HandsKnown.{owned_still}
use Rattle.level_release.proofs.HandsTop.{top}
use Rattle.kind_words.proofs.KindHands.{changed_first}

-- ---- its work, once the entry was looked at, and shed
abbrev pub looked_work : ℕ → ℕ → Work → Work
looked_work i word e = record e { seen = Some (record { index = i; word = word }); unsettled = learned_last i e.recorded word e.unsettled; fixed = (learned_work i word e).fixed }

abbrev pub shed_work : ℕ → ℕ → Work → Work
shed_work i word e = record e { recorded = i; seen = Some (record { index = i; word = word }); unsettled = None; fixed = (learned_work i word e).fixed }

looked_is : {z : Sizes} {made : ℕ} (i word : ℕ) {t : TableWork} {e : Work} → IsReleasedWork z made t e → IsReleasedWork z made t (looked_work i word e)
looked_is i word is = record { inside = is.inside; frame = is.frame; kind = is.kind; unmarked = is.unmarked; recorded = is.recorded; work = is.work; closing = is.closing; earlier = is.earlier }

pub shed_is : {z : Sizes} {made : ℕ} (i word : ℕ) {t : TableWork} {e : Work} → i + 1 + t.done ≡ 512 → IsReleasedWork z made t e → IsReleasedWork z made (one_more_done t) (shed_work i word e)
shed_is i word next is =
    record { inside = is.inside; frame = is.frame; kind = is.kind; unmarked = is.unmarked; recorded = omega (arith, next); work = is.work; closing = is.closing; earlier = is.earlier }

module _ {h : Holdings} {v : PortValue} {t : TableWork} {ts : List TableWork} (s : Empties h v (t ∷ ts)) where
  -- ---- the newest work is another one, with so many entries done
  pub stands_top : (n : ℕ) {e : Work} {w : PortValue} → n ≤ 512 → IsReleasedWork (sizes_of v.post.machine) (length v.holdings.steps) (record t { done = n }) e →
      Holds v w (record v.holdings { works = e ∷ (top s).others }) → Came v w → Empties h w (record t { done = n } ∷ ts)
  stands_top n {e} {w} few is holds came =
      let z = sizes_of v.post.machine in
      let longer = came_longer v w came in
      let made = length v.holdings.steps in
      let o = top s in
      hands_by w (record t { done = n } ∷ ts) v.holdings.refs v.holdings.typed (e ∷ o.others) s holds
      (record { low = s.stack.0.low; high = s.stack.0.high; done = few }, s.stack.1, s.stack.2)
      (tables_later z made (length w.holdings.steps) None (record t { done = n } ∷ ts) (e ∷ o.others) longer (is, tt, tables_done z made t n ts o.others o.around))
      s.refs (typed_later made (length w.holdings.steps) (t ∷ ts) v.holdings.typed longer s.types)
      (owned_still z s.owner (t ∷ ts) v.holdings w.holdings
      (λ g. knows_later z g s.owner v.holdings w.holdings (came_grows v w came) (ap (λ (q : PortValue). q.holdings.refs) holds) (ap (λ (q : PortValue). q.holdings.typed) holds)
      (ap (λ (q : PortValue). q.holdings.locks) holds)) s.owned)

  module _ (first : FirstFound v) (i word : ℕ) where
    looked_hand : learned_cell t.frame i word v.holdings ≡ record v.holdings { works = looked_work i word (top s).work ∷ (top s).others }
    looked_hand =
        let e = top s in
        looked_apart first.finds e.are e.is.frame e.is.inside i word ∙ ap (λ es. record v.holdings { works = es })
        (changed_first t.frame (learned_work i word) e.work e.others v.holdings.works e.are e.is.frame) ∙ ap (λ x. record v.holdings { works = x ∷ e.others })
        (unmarked_learns i word e.work e.is.unmarked)

    pub shed_hand : shed_once t.frame i word v.holdings ≡ record v.holdings { works = shed_work i word (top s).work ∷ (top s).others }
    shed_hand =
        let e = top s in
        ap (λ (k : Holdings). record k { works = changed_work t.frame (λ x. record x { recorded = i; unsettled = None }) k.works }) looked_hand ∙ ap (λ es. record v.holdings { works = es })
        (changed_first t.frame (λ x. record x { recorded = i; unsettled = None }) (looked_work i word e.work) e.others (looked_work i word e.work ∷ e.others) refl e.is.frame)

    -- it is only looked at
    pub stays_stands : {w : PortValue} → Holds v w (learned_cell t.frame i word v.holdings) → Came v w → Empties h w (t ∷ ts)
    stays_stands {w} holds came = stands_top t.done s.stack.0.done (looked_is i word (top s).is) (holds ∙ ap (λ (k : Holdings). still (record v { holdings = k })) looked_hand) came

    -- it is given back
    pub given_stands : {w : PortValue} → i + 1 + t.done ≡ 512 → Holds v w (shed_once t.frame i word v.holdings) → Came v w → Empties h w (one_more_done t ∷ ts)
    given_stands {w} next holds came = stands_top (t.done + 1) (omega (arith, next)) (shed_is i word next (top s).is) (holds ∙ ap (λ (k : Holdings). still (record v { holdings = k })) shed_hand) came

    pub given_settled : (w : PortValue) → Holds v w (shed_once t.frame i word v.holdings) → IsSettledTop w.holdings
    given_settled w holds work others are =
        let both : work ∷ others ≡ shed_work i word (top s).work ∷ (top s).others = sym are ∙ (ap (λ (q : PortValue). q.holdings.works) holds ∙ ap (λ (k : Holdings). k.works) shed_hand) in let one :
        shed_work i word (top s).work ≡ work = cc in subst (λ (y : Work). y.unsettled ≡ None) one refl
