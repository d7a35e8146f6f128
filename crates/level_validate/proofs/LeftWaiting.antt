-- A frame that waits for a flush is left: what is in hand then, from before it was referred to.
use Rattle.std.proofs.Common.{◌≡◌, ◌≢◌, ◌⊎◌, ℕ, ◌+◌, ◌<◌, ◌==◌, not, Bool, true, false, [], Option, Some, IsTrue, refl, sym, ap, ◌∙◌, subst, inl, inr}
use Rattle.std.proofs.lemmas.Bool.{cases_eq, or_left}
use Rattle.xp_words.specs.KindWords.{is_kind, kind_fields}
use Rattle.xp_words.specs.Machine.{IsMachine}
use Rattle.xp_words.specs.PageTypes.{type_number}
use Rattle.xp_words.specs.declared.kind.PageType.{PageType}
use Rattle.xp_board.specs.declared.holdings.Holdings.{Holdings}
use Rattle.xp_board.specs.declared.holdings.OwnerFound.TheVariants as owners
use Rattle.xp_board.specs.declared.holdings.Reference.{Reference}
use Rattle.xp_board.specs.declared.holdings.TypedReference.{TypedReference}
use Rattle.xp_board.specs.declared.holdings.Work.{Work}
use Rattle.xp_board.specs.Hands.{typed_to, without_ref, without_typed, without_work}
use Rattle.xp_board.specs.KindSteps.{kept_owner}
use Rattle.xp_board.specs.Readings.{domain_of}
use Rattle.xp_board.specs.Told.{Post, PortValue}
use Rattle.step_maker.specs.Holds.{FlushedHolds, Holds, MayWork, quiet}
use Rattle.frame_words.specs.Freeing.{gave}
use Rattle.xp_board.proofs.KindReadings.{work_alone}
use Rattle.kept_marks.specs.Marks.{IsForeign, IsKeptOf, LeavesKept, left_kept}
use Rattle.kind_words.specs.Kinds.{MayLeave, partial_kind}
use Rattle.kind_words.proofs.Leaving.{without_newest}
use Rattle.kind_words.proofs.Leaving as leaves
use Rattle.frame_types.specs.Leaving.{GivesBack, KeepsType, StaysTyped, WaitsFrom}
use Rattle.frame_words.specs.Refs.{took}
use Rattle.frame_types.specs.Taking.{WaitsWith, working_typed}
use Rattle.frame_types.proofs.Left.{here, kept_may, no_typed, no_works, own_owner, partial_may}
use Rattle.table_words.specs.OldWords.{kept_in_old, known_old}
use Rattle.table_words.specs.declared.old_words.OldWord.TheVariants.{First}
use Rattle.partial_state.proofs.LevelFacts.{level_type-plain}
use Rattle.partial_state.specs.Levels.{level_type}
use Rattle.level_validate.specs.Acquiring.{TableWaits, WaitedHand, named_if}
use Rattle.level_validate.specs.Tables.{IsIdle}

-- it came to wait under a reference that was taken first
pub waits_on : (v b x : PortValue) (f owner level : ℕ) (own : Bool) (stamp : ℕ) (want : PageType) → want ≡ level_type level → IsIdle v → Holds v b (took f owner v.holdings) → WaitsWith b x f owner want own stamp → TableWaits v x f level owner own stamp
waits_on v b x f owner level own stamp want is idle referred waits = record { lent = b; idle = idle; referred = referred; waits = subst (λ k. WaitsWith b x f owner k own stamp) is waits }

module _ {v x : PortValue} {f level owner : ℕ} {own : Bool} {stamp : ℕ} (a : TableWaits v x f level owner own stamp) where
  abbrev lent_ref : Reference
  lent_ref = record { frame = f; owner = owners.Of owner }

  waits_from : WaitsFrom a.lent x f owner (level_type level) own stamp
  waits_from = record { waits = a.waits; lent = record { others = v.holdings.refs; refs = ap (λ (q : PortValue). q.holdings.refs) a.referred } }

  pub waiting_post : x.post ≡ v.post
  waiting_post = ap (λ (q : PortValue). q.post) a.waits.works.hand ∙ ap (λ (q : PortValue). q.post) a.referred

  -- the reference was given back
  back_left : (w : PortValue) → FlushedHolds a.lent w (gave f a.lent.holdings) → FlushedHolds v w v.holdings
  back_left w back =
      back ∙ ap (λ (q : PortValue). quiet (record q { holdings = gave f q.holdings })) a.referred
      ∙ ap (λ rs. quiet (record v { holdings = record v.holdings { refs = rs } })) (without_newest (λ (y : Reference). y.frame) f lent_ref v.holdings.refs _ refl refl)

  module _ {want : PageType} (is : want ≡ level_type level) {o : Bool} (whose : own ≡ o) where
    pub waits_as : WaitsFrom a.lent x f owner want o stamp
    waits_as = subst (λ b. WaitsFrom a.lent x f owner want b stamp) whose (subst (λ k. WaitsFrom a.lent x f owner k own stamp) (sym is) waits_from)

    -- partial with its mark, of a table: that is a spelling
    pub unkept_is : IsTrue (is_kind (partial_kind want false true 0 stamp))
    unkept_is = (partial_may a.lent x f owner want o stamp waits_as (or_left _ _ (subst (λ k. IsTrue (not (type_number k == 5))) (sym is) (level_type-plain level)))).is

    pub gives_left : (w : PortValue) → GivesBack x w f want o → FlushedHolds v w v.holdings
    gives_left w gives = back_left w (gives a.lent owner stamp waits_as)

  -- ---- the type count is in hand
  module _ {want : PageType} (is : want ≡ level_type level) (mine : own ≡ true) where
    abbrev w : WaitsFrom a.lent x f owner want true stamp
    w = waits_as is mine

    abbrev e : Work
    e = w.waits.work

    pub mark_may : MayLeave x f (partial_kind want true true 0 stamp)
    mark_may = kept_may a.lent x f owner want stamp w

    pub mark_known : IsKeptOf x f owner
    mark_known y at =
        let same : e ≡ y = (let both : Some e ≡ Some y = sym (here a.lent x f owner want true stamp w) ∙ at in cc) in
        subst (λ (z : Work). kept_owner f z x.holdings ≡ owners.Of owner) same (rw (work_alone (kind_fields e.word) w.waits.works.in_work) (own_owner a.lent x f owner want stamp w))

    pub mark_looking : x.holdings.looking ≡ []
    mark_looking = ap (λ (q : PortValue). q.holdings.looking) w.waits.works.hand ∙ ap (λ (q : PortValue). q.holdings.looking) a.referred ∙ a.idle.looking

    pub mark_old : x.holdings.old0 ≡ v.holdings.old0
    mark_old = ap (λ (q : PortValue). q.holdings.old0) w.waits.works.hand ∙ ap (λ (q : PortValue). q.holdings.old0) a.referred

    abbrev gone : Holdings
    gone = record x.holdings { typed = without_typed f x.holdings.typed; works = without_work f x.holdings.works; looking = [] }

    -- it goes into the mark
    mark_gone : left_kept x f (partial_kind want true true 0 stamp) ≡ gone
    mark_gone =
        elim (cases_eq owner (domain_of x.post.machine x.post.vcpu)) [
          | inl same ↦ ap (λ (h : Holdings). record h { looking = [] }) (leaves.left_kept x f want e (here a.lent x f owner want true stamp w) true 0 stamp w.waits.works.in_work mark_may.is (own_owner a.lent x f owner want stamp w ∙ ap (λ o. owners.Of o) same))
          | inr off ↦ ap (λ (h : Holdings). record h { looking = [] }) (leaves.left_kept_other x f want e (here a.lent x f owner want true stamp w) true 0 stamp w.waits.works.in_work owner mark_may.is (own_owner a.lent x f owner want stamp w) off)
        ]

    -- and so out of the hand
    left_gone : (o : Option ℕ) (d : PortValue) → FlushedHolds x d (record gone { old0 = o }) → FlushedHolds v d (record v.holdings { old0 = o })
    left_gone o d hand =
        hand ∙ ap (λ xs. quiet (record x { holdings = record x.holdings { typed = without_typed f x.holdings.typed; works = without_work f x.holdings.works; looking = xs; old0 = o } })) (sym mark_looking)
        ∙ ap (λ xs. quiet (record x { holdings = record x.holdings { typed = xs; works = without_work f x.holdings.works; old0 = o } })) (no_typed a.lent x f owner want stamp w)
        ∙ ap (λ ys. quiet (record x { holdings = record x.holdings { typed = a.lent.holdings.typed; works = ys; old0 = o } })) (no_works a.lent x f owner want true stamp w)
        ∙ ap (λ (q : PortValue). quiet (record q { holdings = record q.holdings { typed = a.lent.holdings.typed; works = a.lent.holdings.works; old0 = o } })) w.waits.works.hand
        ∙ ap (λ (q : PortValue). quiet (record q { holdings = record (gave f q.holdings) { old0 = o } })) a.referred
        ∙ ap (λ rs. quiet (record v { holdings = record v.holdings { refs = rs; old0 = o } })) (without_newest (λ (y : Reference). y.frame) f lent_ref v.holdings.refs _ refl refl)

    module _ (d : PortValue) where
      pub mark_left : LeavesKept x d f (partial_kind want true true 0 stamp) owner → FlushedHolds v d v.holdings ⊎ (IsForeign v owner × FlushedHolds v d (record v.holdings { old0 = Some (f + 1) }))
      mark_left (inl hand) =
          inl (left_gone x.holdings.old0 d (ap quiet hand ∙ ap (λ h. quiet (record x { holdings = h })) mark_gone) ∙ ap (λ o. quiet (record v { holdings = record v.holdings { old0 = o } })) mark_old)
      mark_left (inr back) =
          inr (
            subst (λ (p : Post). owner ≢ domain_of p.machine p.vcpu) waiting_post back.0,
            left_gone (Some (f + 1)) d (ap quiet back.1 ∙ ap (λ (h : Holdings). quiet (record x { holdings = record h { old0 = Some (f + 1) } })) mark_gone),
          )

    module _ (d : PortValue) (keeps : KeepsType x d f want) where
      abbrev stays : StaysTyped a.lent d f owner want
      stays = keeps a.lent owner stamp w

      pub stays_held : 0 < typed_to f d.holdings.typed
      stays_held = stays.held

      pub stays_room : known_old First x.holdings ≡ Some 0 → known_old First d.holdings ≡ Some 0
      stays_room room = ap (λ (q : PortValue). q.holdings.old0) stays.hand ∙ sym (ap (λ (q : PortValue). q.holdings.old0) w.waits.works.hand) ∙ room

      pub stays_may : MayWork x → MayWork d
      stays_may m =
          record {
            running = ap (λ (q : PortValue). q.holdings.run) stays.hand ∙ sym (ap (λ (q : PortValue). q.holdings.run) w.waits.works.hand) ∙ m.running;
            no_walk = ap (λ (q : PortValue). q.holdings.walk) stays.hand ∙ sym (ap (λ (q : PortValue). q.holdings.walk) w.waits.works.hand) ∙ m.no_walk;
            machine = subst (λ (p : Post). IsMachine p.machine) (ap (λ (q : PortValue). q.post) w.waits.works.hand ∙ sym (ap (λ (q : PortValue). q.post) stays.hand)) m.machine;
          }

      pub named_left : (z : PortValue) → Holds d z (kept_in_old First f d.holdings) → FlushedHolds v z (record v.holdings { old0 = Some (f + 1) })
      named_left z put =
          let t = working_typed f owner want stays.since in
          ap quiet put ∙ ap (λ (q : PortValue). quiet (record q { holdings = kept_in_old First f q.holdings })) stays.hand
          ∙ ap (λ ys. quiet (record a.lent { holdings = record a.lent.holdings { refs = without_ref f a.lent.holdings.refs; typed = ys; old0 = Some (f + 1) } })) (without_newest (λ (y : TypedReference). y.frame) f t a.lent.holdings.typed _ refl refl)
          ∙ ap (λ (q : PortValue). quiet (record q { holdings = record (gave f q.holdings) { old0 = Some (f + 1) } })) a.referred
          ∙ ap (λ rs. quiet (record v { holdings = record v.holdings { refs = rs; old0 = Some (f + 1) } })) (without_newest (λ (y : Reference). y.frame) f lent_ref v.holdings.refs _ refl refl)

-- ---- by whose the type count is, and whether its mark is to have it
module _ (v w : PortValue) (f owner : ℕ) (own kept : Bool) where
  pub lent_hand : own ≡ false → FlushedHolds v w v.holdings → WaitedHand v w f owner own kept
  lent_hand lent back = inl (subst (λ b. FlushedHolds v w (named_if f b kept v.holdings)) (sym lent) back)

  pub kept_hand : own ≡ true → kept ≡ true → FlushedHolds v w v.holdings ⊎ (IsForeign v owner × FlushedHolds v w (record v.holdings { old0 = Some (f + 1) })) → WaitedHand v w f owner own kept
  kept_hand mine on (inl back) = inl (subst (λ b. FlushedHolds v w (named_if f b kept v.holdings)) (sym mine) (subst (λ b. FlushedHolds v w (named_if f true b v.holdings)) (sym on) back))
  kept_hand mine on (inr named) = inr (named.0, on, subst (λ b. FlushedHolds v w (named_if f b false v.holdings)) (sym mine) named.1)

  pub named_hand : own ≡ true → kept ≡ false → FlushedHolds v w (record v.holdings { old0 = Some (f + 1) }) → WaitedHand v w f owner own kept
  named_hand mine off back = inl (subst (λ b. FlushedHolds v w (named_if f b kept v.holdings)) (sym mine) (subst (λ b. FlushedHolds v w (named_if f true b v.holdings)) (sym off) back))
