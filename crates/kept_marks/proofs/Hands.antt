-- What is in hand where a frame was left with its mark, and behind each step after that.
use Rattle.std.proofs.Common.{◌≡◌, ◌≢◌, ℕ, ◌+◌, ◌<◌, ◌==◌, not, if◌then◌else◌, Bool, true, false, [], ◌∷◌, Some, IsTrue, refl, sym, ap, ◌∙◌, subst}
use Rattle.xp_words.specs.KindWords.{kind_fields, kind_write}
use Rattle.xp_words.specs.declared.kind.KindWord.{KindWord}
use Rattle.xp_words.proofs.Shared.{eq_false as when_ne}
use Rattle.xp_board.specs.declared.holdings.Holdings.{Holdings}
use Rattle.xp_board.specs.declared.holdings.Looking.{Looking}
use Rattle.xp_board.specs.declared.holdings.TypedReference.{TypedReference}
use Rattle.xp_board.specs.declared.holdings.Work.{Work}
use Rattle.xp_board.specs.After.{learned_life}
use Rattle.xp_board.specs.Hands.{brought_typed, typed_to}
use Rattle.xp_board.specs.KindSteps.{Partial, as_typed, kept_owner, looking_at, put_partial, still_looking}
use Rattle.xp_board.specs.Lists.{kept_of}
use Rattle.xp_board.specs.Readings.{domain_of, is_closing, is_partial}
use Rattle.xp_board.specs.Told.{PortValue}
use Rattle.xp_board.proofs.Sums.{either, when_eq, when_lost}
use Rattle.step_maker.specs.Holds.{Holds, MayWork, still}
use Rattle.kind_words.specs.Kinds.{MayLeave, left, looked_at}
use Rattle.kind_words.proofs.KindHands.{typed_held}
use Rattle.kind_words.proofs.Leaving.{left_is, without_newest}
use Rattle.table_words.specs.OldWords.{kept_in_old, known_old}
use Rattle.table_words.specs.declared.old_words.OldWord.TheVariants.{First}
use Rattle.kept_marks.specs.Marks.{IsForeign, IsKeptOf, left_kept, took_back, unkept_kind}
use Rattle.kept_marks.proofs.MarkWords.{partial_form, unkept_differs}
use Rattle.flush_words.proofs.Shared.{may_held as may_by}

-- a part in which two hands agree
part_of : {A : Type 0} (part : Holdings → A) (b : Bool) (x y : Holdings) → part x ≡ part y → part (if b then x else y) ≡ part y
part_of part true x y same = same
part_of part false x y same = refl

typed_looking : (f : ℕ) (e : Work) (h : Holdings) → (as_typed f e h).looking ≡ h.looking
typed_looking f e h = part_of (λ (u : Holdings). u.looking) (is_closing (kind_fields e.word)) _ h refl

typed_old : (f : ℕ) (e : Work) (h : Holdings) → (as_typed f e h).old0 ≡ h.old0
typed_old f e h = part_of (λ (u : Holdings). u.old0) (is_closing (kind_fields e.word)) _ h refl

typed_run : (f : ℕ) (e : Work) (h : Holdings) → (as_typed f e h).run ≡ h.run
typed_run f e h = part_of (λ (u : Holdings). u.run) (is_closing (kind_fields e.word)) _ h refl

typed_walk : (f : ℕ) (e : Work) (h : Holdings) → (as_typed f e h).walk ≡ h.walk
typed_walk f e h = part_of (λ (u : Holdings). u.walk) (is_closing (kind_fields e.word)) _ h refl

-- the look that the mark asks
abbrev look_at : ℕ → ℕ → ℕ → Looking
look_at f owner word = record { frame = f; owner = owner; word = word }

-- it is done where the domain is found alive, or another word than was left
done_alive : (f owner word : ℕ) → kept_of (λ (e : Looking). not (e.owner == owner)) (look_at f owner word ∷ []) ≡ []
unfolding kept_of
done_alive f owner word = rw (when_eq owner owner refl) refl

done_other : (f owner word found : ℕ) → word ≢ found → still_looking f found (look_at f owner word ∷ []) ≡ []
unfolding kept_of
done_other f owner word found off = rw (when_eq f f refl, when_ne word found off) refl

module _ (v : PortValue) (f : ℕ) (k : KindWord) (owner : ℕ) (leaves : MayLeave v f k) (partial : IsTrue (is_partial k)) (kept : k.kept ≡ true) (known : IsKeptOf v f owner) (looked : v.holdings.looking ≡ []) where
  left_so : left v f k ≡ put_partial v.post.machine v.post.vcpu f k (kind_write k) (kept_owner f leaves.work v.holdings) (as_typed f leaves.work v.holdings)
  left_so = left_is v f leaves.work k Partial leaves.here leaves.is (partial_form k partial)

  -- of a frame of the own domain it asks none
  left_looking : (left v f k).looking ≡ (if owner == domain_of v.post.machine v.post.vcpu then [] else (look_at f owner (kind_write k) ∷ []))
  left_looking =
      let h = as_typed f leaves.work v.holdings in
      ap (λ (u : Holdings). u.looking) left_so
      ∙ ap (λ b. if b then looking_at v.post.machine v.post.vcpu f (kind_write k) (kept_owner f leaves.work v.holdings) h else h.looking) kept
      ∙ ap (λ o. looking_at v.post.machine v.post.vcpu f (kind_write k) o h) (known leaves.work leaves.here)
      ∙ ap (λ xs. if owner == domain_of v.post.machine v.post.vcpu then xs else (look_at f owner (kind_write k) ∷ xs)) (typed_looking f leaves.work v.holdings ∙ looked)

  left_old : (left v f k).old0 ≡ v.holdings.old0
  left_old = ap (λ (u : Holdings). u.old0) left_so ∙ typed_old f leaves.work v.holdings

  done_left : kept_of (λ (e : Looking). not (e.owner == owner)) (left v f k).looking ≡ []
  unfolding kept_of
  done_left =
      ap (λ xs. kept_of (λ (e : Looking). not (e.owner == owner)) xs) left_looking
      ∙ either (λ xs. kept_of (λ (e : Looking). not (e.owner == owner)) xs ≡ []) (owner == domain_of v.post.machine v.post.vcpu) [] (look_at f owner (kind_write k) ∷ []) refl (done_alive f owner (kind_write k))

  module _ (u x : PortValue) (life : ℕ) (store : Holds v u (left v f k)) (look : Holds u x (learned_life owner life u.holdings)) where
    -- the domain lives
    pub alive_hand : life ≡ 0 → Holds v x (left_kept v f k)
    alive_hand alive =
        subst (λ y. Holds u x (learned_life owner y u.holdings)) alive look
        ∙ ap (λ (q : PortValue). still (record q { holdings = record q.holdings { looking = kept_of (λ (e : Looking). not (e.owner == owner)) q.holdings.looking } })) store
        ∙ ap (λ xs. still (record v { holdings = record (left v f k) { looking = xs } })) done_left

    module _ (foreign : IsForeign v owner) (dying : life ≢ 0) where
      looks_on : Holds v x (left v f k)
      looks_on = subst (λ b. Holds u x (if b then record u.holdings { looking = kept_of (λ (e : Looking). not (e.owner == owner)) u.holdings.looking } else u.holdings)) (when_ne life 0 dying) look ∙ store

      pub looks_may : MayWork v → MayWork x
      looks_may = may_by v x (left v f k) looks_on (ap (λ (u : Holdings). u.run) left_so ∙ typed_run f leaves.work v.holdings) (ap (λ (u : Holdings). u.walk) left_so ∙ typed_walk f leaves.work v.holdings)

      no_look : (found : ℕ) → kind_write k ≢ found → still_looking f found (left v f k).looking ≡ []
      no_look found off =
          ap (λ xs. still_looking f found xs)
          (left_looking ∙ when_lost owner (domain_of v.post.machine v.post.vcpu) [] (look_at f owner (kind_write k) ∷ []) foreign)
          ∙ done_other f owner (kind_write k) found off

      -- another vCPU has taken the mark over
      pub taken_hand : (w : PortValue) (found : ℕ) → Holds x w (looked_at f found x.holdings) → found ≢ kind_write k → Holds v w (left_kept v f k)
      taken_hand w found lost off =
          lost ∙ ap (λ (q : PortValue). still (record q { holdings = looked_at f found q.holdings })) looks_on
          ∙ ap (λ xs. still (record v { holdings = record (left v f k) { looking = xs } })) (no_look found (λ same. off (sym same)))

      module _ (y : PortValue) (back : Holds x y (took_back f k x.holdings)) where
        pub back_held : 0 < typed_to f y.holdings.typed
        back_held = subst (λ xs. 0 < typed_to f xs) (sym (ap (λ (q : PortValue). q.holdings.typed) back)) (typed_held f _ _ refl)

        pub back_empty : known_old First v.holdings ≡ Some 0 → known_old First y.holdings ≡ Some 0
        back_empty empty = ap (λ (q : PortValue). q.holdings.old0) back ∙ ap (λ (q : PortValue). q.holdings.old0) looks_on ∙ left_old ∙ empty

        pub back_may : MayWork v → MayWork y
        back_may may = may_by x y (took_back f k x.holdings) back refl refl (looks_may may)

        -- the reference that came back names the frame in the old word
        pub named_hand : (w : PortValue) → Holds y w (kept_in_old First f y.holdings) → Holds v w (record (left_kept v f k) { old0 = Some (f + 1) })
        named_hand w put =
            let item = brought_typed f (Some k.kind) (looked_at f (kind_write (unkept_kind k)) x.holdings) in
            put ∙ ap (λ (q : PortValue). still (record q { holdings = kept_in_old First f q.holdings })) back
            ∙ ap (λ xs. still (record x { holdings = record (looked_at f (kind_write (unkept_kind k)) x.holdings) { typed = xs; old0 = Some (f + 1) } }))
            (without_newest (λ (e : TypedReference). e.frame) f item x.holdings.typed (item ∷ x.holdings.typed) refl refl)
            ∙ ap (λ (q : PortValue). still (record q { holdings = record (looked_at f (kind_write (unkept_kind k)) q.holdings) { old0 = Some (f + 1) } })) looks_on
            ∙ ap (λ xs. still (record v { holdings = record (left v f k) { looking = xs; old0 = Some (f + 1) } })) (no_look (kind_write (unkept_kind k)) (unkept_differs k kept))
