-- An entry exchanged under the own lock, and a word of a vCPU that may name a frame.
use Rattle.std.proofs.Common.{◌≡◌, ◌≢◌, ℕ, ◌+◌, ◌<◌, nat_lt, false, Option, Some, IsTrue, refl, sym, ◌∙◌, ap, inl, inr, arith, true}
use Rattle.std.proofs.lemmas.Bool.{cases_Bool}
use Rattle.std.proofs.lemmas.Bool.Decides.{nat_tests}
use Rattle.xp_words.specs.declared.kind.PageType.{PageType}
use Rattle.xp_words.specs.declared.kind.PageType.TheVariants as kinds
use Rattle.xp_words.specs.Entries.{demand_at}
use Rattle.xp_words.specs.Machine.{Machine}
use Rattle.xp_words.specs.declared.place.Place.{Place}
use Rattle.xp_words.specs.declared.place.Place.TheVariants.{Vcpu, Refs, Kind, Cell, Priv}
use Rattle.xp_words.specs.Places.{sizes_of}
use Rattle.xp_board.specs.declared.step.Step.{Step}
use Rattle.xp_board.specs.declared.holdings.Holdings.{Holdings}
use Rattle.xp_board.specs.Hands.{work_on}
use Rattle.xp_board.specs.Readings.{kind_at, is_live, owner_of, domain_of}
use Rattle.xp_board.specs.Settling.{demand_in, demand_out}
use Rattle.xp_board.specs.ContextSteps.{FitsWord, context_type, named_in, named_out}
use Rattle.xp_board.specs.After.{learned}
use Rattle.xp_board.specs.Valid.{Valid, Permitted, is_live_context}
use Rattle.xp_board.specs.Recorded.{entry_demand}
use Rattle.xp_board.specs.Sound.{Sound}
use Rattle.xp_board.proofs.PlaceTests.{same_or_other}
use Rattle.step_effects.proofs.ActEffects.{Exchanged, Named}
use Rattle.type_rule.proofs.HandParts.{SameThree, three_in, three_out, three_then, three_name_in, three_name_out, three_own}
use Rattle.type_rule.proofs.Works.{WorkKeptIn, works_kept}
use Rattle.type_rule.proofs.EntryChange.{OneStep, quiet_entry, quiet_leads}
use Rattle.type_rule.proofs.ValidLaw.{OwnersStay, EntriesAfter, valid_law, permitted_law}
use Rattle.type_rule.proofs.QuietLaw.{same_owners}
use Rattle.type_rule.proofs.QuietActs.{one_by}
use Rattle.type_rule.proofs.CellAct.{CellAct, cell_valid, cell_permitted}
use Rattle.type_rule.proofs.CellRows.{lock_type, lock_table, desc_no_table}
use Rattle.type_rule.proofs.NewEntries.{demand_new}

-- a word whose frame has to be live asks a type
fits_some : (k : ℕ) → IsTrue (is_live_context k) → (t : PageType) × (context_type k ≡ Some t)
fits_some k u =
    elim (cases_Bool (nat_lt k 2)) [
      | inl low ↦ (kinds.L4, rw low refl)
      | inr high ↦ (let f : nat_lt k 4 ≡ false = grind (arith, nat_tests) in (kinds.Desc, rw (high, f) refl))
    ]

fits_at : (n : Machine) (s f : ℕ) (h : Holdings) (o : Option PageType) (t : PageType) → o ≡ Some t → FitsWord n s f h o → FitsWord n s f h (Some t)
fits_at n s f h o t e k = rw e at k

module _ (n : Machine) (s : ℕ) (x : Step) (m m2 : Place → ℕ) (b c : ℕ → Holdings) (real : s < (sizes_of n).vcpus) (sound : Sound n m b)
    (others : (t : ℕ) → t ≢ s → c t ≡ b t) where
  -- ---- an entry
  moved : (f i : ℕ) (d : Exchanged n x f i m m2 (b s) (c s)) → SameThree (b s) (demand_in true (demand_at d.e.kind i (m (Cell f i))) (demand_out (demand_at d.e.kind i (m2 (Cell f i))) (b s)))
  moved f i d = three_then (b s) _ _ (three_out (demand_at d.e.kind i (m2 (Cell f i))) (b s)) (three_in true (demand_at d.e.kind i (m (Cell f i))) _)

  exchanged_act : (f i : ℕ) (d : Exchanged n x f i m m2 (b s) (c s)) →
      CellAct n s x m m2 b c real sound others f i d.wrote.others (m2 (Cell f i)) _ d.wrote.place d.wrote.left d.hand (moved f i d)
  exchanged_act f i d =
      let kind = lock_type n s x m m2 b c real sound others f d.e d.here in
      let asks : entry_demand m2 f i ≡ demand_at d.e.kind i (m2 (Cell f i)) = rw (d.wrote.others (Kind f) (λ e. cc), kind) refl in
      record {
        entry = λ l. inr (demand_new n s m m2 b c real sound (λ g. d.wrote.others (Refs g) (λ e. cc)) (λ g. d.wrote.others (Kind g) (λ e. cc)) (λ o. d.wrote.others (Priv o) (λ e. cc)) f i d.e.kind _ kind asks d.may);
        fixed = λ live desc l. absurd (desc_no_table (kind_at m f).kind desc (lock_table n s x m m2 b c real sound others f d.e d.here));
      }

  pub exchanged_valid : (f i : ℕ) → Exchanged n x f i m m2 (b s) (c s) → Valid (sizes_of n) m2 c
  exchanged_valid f i d =
      cell_valid n s x m m2 b c real sound others f i d.wrote.others (m2 (Cell f i)) _ d.wrote.place d.wrote.left d.hand (moved f i d) (exchanged_act f i d)

  pub exchanged_permitted : (f i : ℕ) → Exchanged n x f i m m2 (b s) (c s) → Permitted n m2 c
  exchanged_permitted f i d =
      cell_permitted n s x m m2 b c real sound others f i d.wrote.others (m2 (Cell f i)) _ d.wrote.place d.wrote.left d.hand (moved f i d) (exchanged_act f i d)

  -- ---- a word of a vCPU
  module _ (v k : ℕ) (d : Named n s x v k m m2 (b s) (c s)) where
    same_hand : SameThree (b s) (learned s (Vcpu v k) (m (Vcpu v k)) (m2 (Vcpu v k)) (named_in k (m (Vcpu v k)) (named_out (m2 (Vcpu v k)) (b s))))
    same_hand =
        three_then (b s) _ _ (three_then (b s) _ _ (three_name_out (m2 (Vcpu v k)) (b s)) (three_name_in k (m (Vcpu v k)) _)) (three_own s v k (m (Vcpu v k)) (m2 (Vcpu v k)) _)

    one : OneStep n s x m m2 b c
    one = one_by n s x m m2 b c real sound others (Vcpu v k) _ d.wrote.place d.wrote.left d.hand same_hand.steps

    kinds_same : (g : ℕ) → m2 (Kind g) ≡ m (Kind g)
    kinds_same g = d.wrote.others (Kind g) (λ e. cc)

    works : (g : ℕ) → WorkKeptIn (work_on g (b s).works) (work_on g (c s).works)
    works g = rw (ap (λ u. u.works) d.hand ∙ same_hand.works) (works_kept (work_on g (b s).works))

    entries : EntriesAfter n m m2 b c
    entries f i l = inl (quiet_entry n s x m m2 b c one kinds_same works f i (λ h. rw (d.wrote.others (Cell f i) (λ e. cc)) refl) l)

    -- the frame that the new word names is live, and the own domain's
    new_name : IsTrue (is_live_context k) → (g : ℕ) → m2 (Vcpu v k) ≡ g + 1 → IsTrue (is_live (kind_at m g)) × (owner_of (m (Refs g)) ≡ Some (domain_of n v))
    new_name u g e =
        elim d.may [
          | inr empty ↦ absurd (let z = empty.none in omega arith)
          | inl name ↦ elim name.names [
            | inl none ↦ absurd (omega arith)
            | inr named ↦
                (let at : named.frame ≡ g = (let q = named.names in omega arith) in
                let t = fits_some k u in
                let fits = fits_at n s named.frame (b s) (context_type k) t.0 t.1 named.fits in
                let live = ((sound.found s real).lives named.frame t.0 fits.0).0 in
                let own = (sound.found s real).owners named.frame (domain_of n s) fits.1 in
                (rw (sym at) live, rw (sym at, name.own) own))
          ]
        ]

    old_word : (w j : ℕ) → Vcpu w j ≢ Vcpu v k → m2 (Vcpu w j) ≡ m (Vcpu w j)
    old_word w j off = d.wrote.others (Vcpu w j) off

    pub named_valid : Valid (sizes_of n) m2 c
    named_valid =
        valid_law n m m2 b c
        (record {
          entries = entries;
          leads = λ f i g t now l e leads. quiet_leads n s x m m2 b c one kinds_same works f i g leads;
          fixed = λ f i live desc l. rw (d.wrote.others (Cell f i) (λ e. cc)) (sound.valid.fixed f i (rw (kinds_same f) at live) (rw (kinds_same f) at desc) l);
          contexts = λ w j g l h u e. rw (kinds_same g) (elim (same_or_other (Vcpu w j) (Vcpu v k)) [
            | inl at ↦ (let p : w ≡ v = cc in let q : j ≡ k = cc in (new_name (rw q at u) g (rw (p, q) at e)).0)
            | inr off ↦ sound.valid.contexts w j g l h u (sym (old_word w j off) ∙ e)
          ]);
        })
        sound.valid

    owners : OwnersStay m m2
    owners = same_owners m m2 (λ g. d.wrote.others (Refs g) (λ e. cc)) (λ o. d.wrote.others (Priv o) (λ e. cc))

    pub named_permitted : Permitted n m2 c
    named_permitted =
        permitted_law n s m m2 b c real sound
        (record {
          entries = entries;
          owners = owners;
          contexts = λ w j g l h u e. rw (d.wrote.others (Refs g) (λ r. cc)) (elim (same_or_other (Vcpu w j) (Vcpu v k)) [
            | inl at ↦ (let p : w ≡ v = cc in let q : j ≡ k = cc in rw p (new_name (rw q at u) g (rw (p, q) at e)).1)
            | inr off ↦ sound.permitted.contexts w j g l h u (sym (old_word w j off) ∙ e)
          ]);
        })
