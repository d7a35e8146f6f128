-- Ordinary memory that waits for a flush is left: what is in hand then.
use Rattle.std.proofs.Common.{◌≡◌, ◌≢◌, ℕ, ◌+◌, if◌then◌else◌, true, [], Some, Err, sym, ap, ◌∙◌, subst, inl, inr}
use Rattle.std.proofs.lemmas.Bool.{cases_eq}
use Rattle.xp_words.specs.KindWords.{kind_fields}
use Rattle.xp_words.specs.declared.kind.KindWord.{KindWord}
use Rattle.xp_words.specs.declared.kind.PageType.TheVariants.{Writable}
use Rattle.xp_words.specs.declared.reply.Pause.{Pause}
use Rattle.xp_words.specs.declared.reply.Stop.{Stop}
use Rattle.xp_words.specs.declared.reply.Stop.TheVariants.{Refused, Paused}
use Rattle.xp_board.specs.declared.holdings.Holdings.{Holdings}
use Rattle.xp_board.specs.declared.holdings.OwnerFound.TheVariants as owners
use Rattle.xp_board.specs.declared.holdings.Work.{Work}
use Rattle.xp_board.specs.Hands.{ref_owner, typed_owner, without_typed, without_work}
use Rattle.xp_board.specs.KindSteps.{kept_owner}
use Rattle.xp_board.specs.Readings.{domain_of}
use Rattle.xp_board.specs.Told.{Post, PortValue}
use Rattle.step_maker.specs.Holds.{FlushedHolds, quiet}
use Rattle.frame_words.specs.Freeing.{gave}
use Rattle.xp_board.proofs.KindReadings.{work_alone}
use Rattle.kind_words.specs.Kinds.{MayLeave, partial_kind}
use Rattle.kind_words.proofs.Leaving as leaving
use Rattle.frame_types.specs.Leaving.{WaitsFrom}
use Rattle.frame_types.proofs.Left.{here, kept_may, no_typed, no_works, own_owner}
use Rattle.kept_marks.specs.Marks.{IsKeptOf, LeavesKept, left_kept}
use Rattle.writable_pages.specs.Pages.{LeavesPage}

-- the untyped reference is gone
pub leaves_back : (b w : PortValue) (f owner : ℕ) (stop : Stop) → FlushedHolds b w (gave f b.holdings) → LeavesPage b w f owner (Err stop)
leaves_back b w f owner (Refused x) a = a
leaves_back b w f owner (Paused x) a = inl a

module _ (b v : PortValue) (f owner stamp : ℕ) (w : WaitsFrom b v f owner Writable true stamp) where
  -- the type count may go into the mark
  pub page_may : MayLeave v f (partial_kind Writable true true 0 stamp)
  page_may = kept_may b v f owner Writable stamp w

  pub page_known : IsKeptOf v f owner
  page_known e at =
      let is : w.waits.work ≡ e = (let k : Some w.waits.work ≡ Some e = sym (here b v f owner Writable true stamp w) ∙ at in cc) in
      let known : kept_owner f w.waits.work v.holdings ≡ owners.Of owner =
      ap (λ b. if b then ref_owner f v.holdings else typed_owner f v.holdings) (work_alone (kind_fields w.waits.work.word) w.waits.works.in_work) ∙ own_owner b v f owner Writable stamp w in
      subst (λ (y : Work). kept_owner f y v.holdings ≡ owners.Of owner) is known

  module _ (looked : v.holdings.looking ≡ []) where
    abbrev kept_kind : KindWord
    kept_kind = partial_kind Writable true true 0 stamp

    -- whosever the frame is: nothing of it is in hand
    kept_hand : left_kept v f kept_kind ≡ record v.holdings { typed = without_typed f v.holdings.typed; works = without_work f v.holdings.works; looking = [] }
    kept_hand =
        let e = w.waits.work in
        let at = here b v f owner Writable true stamp w in
        let known = own_owner b v f owner Writable stamp w in
        elim (cases_eq owner (domain_of v.post.machine v.post.vcpu)) [
          | inl same ↦ ap (λ (h : Holdings). record h { looking = [] }) (leaving.left_kept v f Writable e at true 0 stamp w.waits.works.in_work page_may.is (known ∙ ap (λ o. owners.Of o) same))
          | inr off ↦ ap (λ (h : Holdings). record h { looking = [] }) (leaving.left_kept_other v f Writable e at true 0 stamp w.waits.works.in_work owner page_may.is known off)
        ]

    none_looked : b.holdings.looking ≡ []
    none_looked = sym (ap (λ (q : PortValue). q.holdings.looking) w.waits.works.hand) ∙ looked

    kept_gone : FlushedHolds b (record v { holdings = left_kept v f kept_kind }) (gave f b.holdings)
    kept_gone =
        ap (λ k. quiet (record v { holdings = k })) kept_hand
        ∙ ap (λ xs. quiet (record v { holdings = record v.holdings { typed = xs; works = without_work f v.holdings.works; looking = [] } })) (no_typed b v f owner Writable stamp w)
        ∙ ap (λ ys. quiet (record v { holdings = record v.holdings { typed = b.holdings.typed; works = ys; looking = [] } })) (no_works b v f owner Writable true stamp w)
        ∙ ap (λ (q : PortValue). quiet (record q { holdings = record q.holdings { typed = b.holdings.typed; works = b.holdings.works; looking = [] } })) w.waits.works.hand
        ∙ ap (λ ls. quiet (record b { holdings = record (gave f b.holdings) { looking = ls } })) (sym none_looked)

    pub kept_leaves : (d : PortValue) (x : Pause) → LeavesKept v d f kept_kind owner → LeavesPage b d f owner (Err (Paused x))
    kept_leaves d x (inl a) = inl (ap quiet a ∙ kept_gone)
    kept_leaves d x (inr a) =
        inr (
          subst (λ (q : Post). owner ≢ domain_of q.machine q.vcpu) (ap (λ (q : PortValue). q.post) w.waits.works.hand) a.0,
          ap quiet a.1 ∙ ap (λ (q : PortValue). record q { holdings = record q.holdings { old0 = Some (f + 1) } }) kept_gone,
        )
