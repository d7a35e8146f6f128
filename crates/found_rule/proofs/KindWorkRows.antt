-- Exchanges of the kind words of partial and dead frames, which bring them into work or take their mark back.
use Rattle.std.proofs.Common.{◌≡◌, ◌≢◌, ℕ, suc, ◌+◌, ◌<◌, ◌≤◌, ◌==◌, if◌then◌else◌, Bool, true, false, List, ◌∷◌, length, Option, Some, None, refl, sym, ap, subst, ◌∙◌, arith}
use Rattle.std.proofs.lemmas.Bool.Decides.{nat_tests}
use Rattle.xp_words.specs.declared.kind.KindWord.{KindWord}
use Rattle.xp_words.specs.PageTypes.{is_table}
use Rattle.xp_words.specs.Machine.{Machine}
use Rattle.xp_words.specs.declared.place.Place.{Place}
use Rattle.xp_words.specs.declared.place.Place.TheVariants.{Kind}
use Rattle.xp_words.specs.Places.{sizes_of}
use Rattle.xp_words.proofs.Shared.{if_or_zero as if_fewer}
use Rattle.xp_board.specs.declared.step.Step.{Step}
use Rattle.xp_board.specs.declared.holdings.Unsettled.{Unsettled}
use Rattle.xp_board.specs.declared.holdings.TypedReference.{TypedReference}
use Rattle.xp_board.specs.declared.holdings.Liveness.TheVariants as lives
use Rattle.xp_board.specs.declared.holdings.Work.{Work}
use Rattle.xp_board.specs.declared.holdings.Holdings.{Holdings}
use Rattle.xp_board.specs.Lists.{EachOf}
use Rattle.xp_board.specs.Readings.{kind_at, is_live, type_count}
use Rattle.xp_board.specs.Hands.{ref_owner, owner_from, brought_typed}
use Rattle.xp_board.specs.KindSteps.{KindRow, Count, Locks, Pin, Unpin, Resume, TakeBack, Begin, still_looking, resumed, taken_back, begun, new_work, unsettled_from, is_stale}
use Rattle.xp_board.specs.Found.{WorkFound, LockFound}
use Rattle.xp_board.specs.WellFormed.{LastIs, IsWorkFormed, IsLockFormed}
use Rattle.xp_board.specs.Sound.{Sound, is_busy}
use Rattle.step_effects.proofs.ActEffects.{Turned}
use Rattle.xp_board.proofs.KindForms.{partial_form}
use Rattle.found_rule.proofs.Learning.{Act}
use Rattle.found_rule.proofs.Words.{Words}
use Rattle.found_rule.proofs.KnownFacts.{RefRight, TypedRight, LockRight}
use Rattle.found_rule.proofs.HandFacts.{ReachKept}
use Rattle.found_rule.proofs.MyHand.{lock_right_old, locks_old}
use Rattle.xp_board.proofs.KindReadings.{partial_idle, partial_parts, dead_idle, dead_unlive, dead_count}
use Rattle.found_rule.proofs.KindLaw.{KindRest, kind_done, kind_works_stay, kind_works_formed, kind_locks_formed, new_found, new_formed}
use Rattle.found_rule.proofs.Quiet.{Done}
use Rattle.found_rule.proofs.KindRows.{free_words, row_done, refs_are, typed_are, owner_is, new_reference, owner_none, none, looked, turned_act, count_done, lock_done, pin_done, unpin_done}
use Rattle.xp_board.proofs.KindReadings.{stamp_of}
use Rattle.xp_board.proofs.HandLists.{EachOf-more, EachOf-without}

module _ (n : Machine) (s : ℕ) (x : Step) (m m2 : Place → ℕ) (b c : ℕ → Holdings) (l : s < (sizes_of n).vcpus) (sound : Sound n m b) (others : (t : ℕ) → t ≢ s → c t ≡ b t) (f : ℕ) where
  abbrev base : Holdings
  base = record (b s) { looking = still_looking f (m2 (Kind f)) (b s).looking }

  -- ---- partial and dead frames
  module _ (k w : KindWord) (was : kind_at m f ≡ k) (is : kind_at m2 f ≡ w) (v : k.validated ≡ false) (o : (q : Place) → q ≢ Kind f → m2 q ≡ m q) (free : is_busy (kind_at m f) ≡ false) where
    -- the type stays, and the stamp is no later
    partial_words : w.kind ≡ k.kind → w.number ≤ k.number → w.validated ≡ false → Words n s m m2 b
    partial_words kind number now =
        free_words n s x m m2 b c l sound others f o free (λ q r. absurd (let e : is_live (kind_at m f) ≡ false = ap is_live was ∙ v in cc)) (λ q. ap (λ y. y.kind) is ∙ kind ∙ sym (ap (λ y. y.kind) was))
        (let a = stamp_of (m2 (Kind f)) w is now in let e = stamp_of (m (Kind f)) k was v in let t = sound.stamped.kinds f in omega arith)

    dead_words : type_count (kind_at m f) ≡ 0 → w.number ≤ k.number → w.validated ≡ false → Words n s m m2 b
    dead_words count number now =
        free_words n s x m m2 b c l sound others f o free (λ q r. absurd (omega arith)) (λ q. absurd (omega arith))
        (let a = stamp_of (m2 (Kind f)) w is now in let e = stamp_of (m (Kind f)) k was v in let t = sound.stamped.kinds f in omega arith)

  take_back_done : Turned n s x f TakeBack m m2 (b s) (c s) → Done n s m m2 b c
  take_back_done d =
      let k = d.k in
      let y = d.may in
      let u = taken_back f k base in
      let acted = turned_act n s x m m2 b c l sound others f TakeBack d u refl refl refl refl refl in
      let p = partial_parts k y.partial in
      let free = ap is_busy d.fields_was ∙ partial_idle k y.partial in
      let words = partial_words k d.l d.fields_was d.fields_is p.0 d.wrote.others free (ap (λ q. q.kind) y.left) (let e = ap (λ q. q.number) y.left in omega arith) (ap (λ q. q.validated) y.left ∙ p.0) in
      row_done n s x m m2 b c l sound others f u acted words free (record { ending = refl; claimed = refl; raised = refl; cache = refl; walk = refl; cold = refl; turn = refl; acked = refl; ran = refl }) refl refl refl
      (refs_are n s x m m2 b c l sound others f u acted words free)
      (λ reach.
      EachOf-more (TypedRight (sizes_of n) m2 (c s).steps) (brought_typed f (Some k.kind) base) (b s).typed
      (new_reference n s x m m2 b c l sound others f u acted words free (Some k.kind) (owner_from base) (owner_none n s x m m2 b c l sound others f u acted words free)) (typed_are n s x m m2 b c l sound others f u acted words free reach))

  -- ---- a frame comes into work
  unsettled_last : (e : Work) (progress : ℕ) (t : Bool) (h : Holdings) → LastIs (sizes_of n) e (c s).steps (if t then None else Some (record { since = length h.steps + 1; word = None }))
  unsettled_last e progress true h = tt
  unsettled_last e progress false h = λ w q. absurd cc

  unsettled_since : (progress : ℕ) (t : Bool) (h : Holdings) → (progress == 0) ≡ t → length h.steps + 1 ≤ length (c s).steps → (q : Unsettled) →
      (if t then None else Some (record { since = length h.steps + 1; word = None })) ≡ Some q → (0 < progress) × (q.since ≤ length (c s).steps)
  unsettled_since progress true h e long q r = absurd cc
  unsettled_since progress false h e long q r =
      let a : record { since = length h.steps + 1; word = None } ≡ q = cc in (grind (arith, nat_tests), (let g = ap (λ y. y.since) a in omega arith))

  typed_if : (P : TypedReference → Type 0) (t : Bool) (e : TypedReference) (es : List TypedReference) → P e → EachOf P es → EachOf P (if t then (e ∷ es) else es)
  typed_if P true e es one h = EachOf-more P e es one h
  typed_if P false e es one h = h

  module _ (u : Holdings) (acted : Act n s (Kind f) m m2 (b s) u (c s)) (words : Words n s m m2 b) (free : is_busy (kind_at m f) ≡ false) (recorded : ℕ) (unsettled : Option Unsettled) where
    work_done : KindRest (b s) u → u.works ≡ new_work f (m2 (Kind f)) recorded unsettled base ∷ (b s).works → u.locks ≡ (b s).locks → u.looking ≡ still_looking f (m2 (Kind f)) (b s).looking →
        (ReachKept n m m2 b c → EachOf (RefRight (sizes_of n) m2 (c s).steps) u.refs) → (ReachKept n m m2 b c → EachOf (TypedRight (sizes_of n) m2 (c s).steps) u.typed) →
        IsWorkFormed n (c s) (new_work f (m2 (Kind f)) recorded unsettled base) → Done n s m m2 b c
    work_done rest works locks looking refs typed formed =
        let z = sizes_of n in
        let new = new_work f (m2 (Kind f)) recorded unsettled base in
        kind_done n s m m2 b c l sound others f u acted words rest
        (λ reach. record {
          refs = refs reach;
          typed = typed reach;
          lock_right = subst (λ xs. EachOf (LockRight z m2 (c s).steps) xs) (sym locks) (lock_right_old n s (Kind f) m m2 b c u acted l sound words reach);
          works = subst (λ xs. EachOf (WorkFound n m2 c (c s)) xs) (sym works)
              (EachOf-more (WorkFound n m2 c (c s)) new (b s).works (new_found n s m m2 b c l sound others f u acted words recorded unsettled base refl)
              (kind_works_stay n s m m2 b c l sound others f u acted words (none n s x m m2 b c l sound others f u acted words free) reach));
          locks = subst (λ xs. EachOf (LockFound z m2 (c s)) xs) (sym locks) (locks_old n s (Kind f) m m2 b c u acted l sound words reach);
        })
        (subst (λ xs. EachOf (IsWorkFormed n (c s)) xs) (sym works) (EachOf-more (IsWorkFormed n (c s)) new (b s).works formed (kind_works_formed n s m m2 b c l sound others f u acted words)))
        (subst (λ xs. EachOf (IsLockFormed n (c s)) xs) (sym locks) (kind_locks_formed n s m m2 b c l sound others f u acted words)) (looked n s x m m2 b c l sound others f u acted words free looking)

  resume_done : Turned n s x f Resume m m2 (b s) (c s) → Done n s m m2 b c
  resume_done d =
      let k = d.k in
      let y = d.may in
      let u = resumed f k (m2 (Kind f)) base in
      let p = partial_parts k y.partial in
      let acted = turned_act n s x m m2 b c l sound others f Resume d u refl refl refl refl refl in
      let free = ap is_busy d.fields_was ∙ partial_idle k y.partial in
      let kind : d.l.kind ≡ k.kind = ap (λ q. q.kind) y.left in
      let words = partial_words k d.l d.fields_was d.fields_is p.0 d.wrote.others free kind (let e = ap (λ q. q.number) y.left in omega arith) (ap (λ q. q.validated) y.left ∙ p.0) in
      let form = partial_form (m (Kind f)) k d.was p.0 p.1 in
      let long : length (c s).steps ≡ suc (length (b s).steps) = ap length acted.steps in
      let unsettled = unsettled_from k.progress base in
      let new = new_work f (m2 (Kind f)) k.progress unsettled base in
      let same : (kind_at m2 f).kind ≡ k.kind = ap (λ q. q.kind) d.fields_is ∙ kind in
      work_done u acted words free k.progress unsettled
      (record { ending = refl; claimed = refl; raised = refl; cache = refl; walk = refl; cold = refl; turn = refl; acked = refl; ran = refl }) refl refl refl (refs_are n s x m m2 b c l sound others f u acted words free)
      (λ reach.
      typed_if (TypedRight (sizes_of n) m2 (c s).steps) k.kept (record { frame = f; kind = Some k.kind; owner = ref_owner f base; live = lives.Since (length (b s).steps) }) (b s).typed
      (new_reference n s x m m2 b c l sound others f u acted words free (Some k.kind) (ref_owner f base) (owner_is n s x m m2 b c l sound others f u acted words free reach)) (typed_are n s x m m2 b c l sound others f u acted words free reach))
      (new_formed n s m m2 b c l sound others f u acted words k.progress unsettled base refl (let q = form.progress in omega arith)
      (λ t. (form.page (sym (ap is_table same) ∙ t)).0) (unsettled_last new k.progress (k.progress == 0) base) (unsettled_since k.progress (k.progress == 0) base refl (omega arith)))

  begin_done : Turned n s x f Begin m m2 (b s) (c s) → Done n s m m2 b c
  begin_done d =
      let k = d.k in
      let y = d.may in
      let u = begun f d.l (m2 (Kind f)) base in
      let unlive = dead_unlive k y.dead in
      let acted = turned_act n s x m m2 b c l sound others f Begin d u refl refl refl refl refl in
      let free = ap is_busy d.fields_was ∙ dead_idle k y.dead in
      let count : type_count (kind_at m f) ≡ 0 = ap type_count d.fields_was ∙ dead_count k y.dead in
      let words = dead_words k d.l d.fields_was d.fields_is unlive d.wrote.others free count
      (let e = ap (λ q. q.number) y.left in let g = if_fewer (is_stale k d.l.kind) k.number in omega arith) (ap (λ q. q.validated) y.left) in
      let new = new_work f (m2 (Kind f)) 0 None base in
      work_done u acted words free 0 None
      (record { ending = refl; claimed = refl; raised = refl; cache = refl; walk = refl; cold = refl; turn = refl; acked = refl; ran = refl }) refl refl refl
      (λ reach. EachOf-without (RefRight (sizes_of n) m2 (c s).steps) (λ e. e.frame) f (b s).refs (refs_are n s x m m2 b c l sound others f u acted words free reach))
      (λ reach.
      EachOf-more (TypedRight (sizes_of n) m2 (c s).steps) (record { frame = f; kind = Some d.l.kind; owner = ref_owner f base; live = lives.Since (length (b s).steps) }) (b s).typed
      (new_reference n s x m m2 b c l sound others f u acted words free (Some d.l.kind) (ref_owner f base) (owner_is n s x m m2 b c l sound others f u acted words free reach)) (typed_are n s x m m2 b c l sound others f u acted words free reach))
      (new_formed n s m m2 b c l sound others f u acted words 0 None base refl (omega arith) (λ t. refl) tt (λ q r. absurd cc))

  pub turned_done : (row : KindRow) → Turned n s x f row m m2 (b s) (c s) → Done n s m m2 b c
  turned_done Count d = count_done n s x m m2 b c l sound others f d
  turned_done Locks d = lock_done n s x m m2 b c l sound others f d
  turned_done Pin d = pin_done n s x m m2 b c l sound others f d
  turned_done Unpin d = unpin_done n s x m m2 b c l sound others f d
  turned_done Resume d = resume_done d
  turned_done TakeBack d = take_back_done d
  turned_done Begin d = begin_done d
