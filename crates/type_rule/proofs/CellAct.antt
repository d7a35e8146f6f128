-- An act on a cell: what has to be shown of it, and what follows.
use Rattle.std.proofs.Common.{◌≡◌, ◌≢◌, ℕ, ◌<◌, ◌⊎◌, ◌∷◌, IsTrue, refl, sym, ◌∙◌, ap, subst, inl, inr}
use Rattle.xp_words.specs.declared.kind.PageType.TheVariants as kinds
use Rattle.xp_words.specs.Entries.{demand_at}
use Rattle.xp_words.specs.Machine.{Machine}
use Rattle.xp_words.specs.declared.place.Place.{Place}
use Rattle.xp_words.specs.declared.place.Place.TheVariants.{Vcpu, Refs, Kind, Cell, Priv}
use Rattle.xp_words.specs.Places.{sizes_of}
use Rattle.xp_board.specs.declared.step.Step.{Step}
use Rattle.xp_board.specs.declared.holdings.Holdings.{Holdings}
use Rattle.xp_board.specs.Acts.{left_by}
use Rattle.xp_board.specs.Hands.{work_on, changed_work}
use Rattle.xp_board.specs.Readings.{kind_at, is_live}
use Rattle.xp_board.specs.After.{is_fixed, noted, learned_cell, learned_work}
use Rattle.xp_board.specs.Recorded.{held, entry_demand}
use Rattle.xp_board.specs.Runs.{place_of}
use Rattle.xp_board.specs.Valid.{Valid, Permitted}
use Rattle.xp_board.specs.Sound.{Sound}
use Rattle.xp_board.proofs.PlaceTests.{same_or_other}
use Rattle.type_rule.proofs.HandParts.{SameThree}
use Rattle.type_rule.proofs.Works.{WorkKeptIn, cell_kept}
use Rattle.type_rule.proofs.EntryChange.{OneStep, quiet_entry, quiet_leads, quiet_held}
use Rattle.type_rule.proofs.ValidLaw.{OwnersStay, NewEntry, EntriesAfter, valid_law, permitted_law, contexts_permitted}
use Rattle.type_rule.proofs.QuietLaw.{same_owners}

module _ (n : Machine) (s : ℕ) (x : Step) (m m2 : Place → ℕ) (b c : ℕ → Holdings) (real : s < (sizes_of n).vcpus) (sound : Sound n m b)
    (others : (t : ℕ) → t ≢ s → c t ≡ b t) (f i : ℕ) (same : (p : Place) → p ≢ Cell f i → m2 p ≡ m p) where
  -- the hand y with what is learned of the cell
  module _ (w : ℕ) (y : Holdings) (place : place_of n x ≡ Cell f i) (left : left_by x.act (m (Cell f i)) ≡ m2 (Cell f i))
      (hand : c s ≡ noted x (m (Cell f i)) (learned_cell f i w y)) (three : SameThree (b s) y) where
    one : OneStep n s x m m2 b c
    one =
        record {
          others = others;
          found = m (Cell f i);
          left = left ∙ ap m2 (sym place);
          steps = ap (λ u. u.steps) hand ∙ ap (λ l. record { step = x; found = m (Cell f i) } ∷ l) three.steps;
        }

    kinds_same : (g : ℕ) → m2 (Kind g) ≡ m (Kind g)
    kinds_same g = same (Kind g) (λ e. cc)

    works : (g : ℕ) → WorkKeptIn (work_on g (b s).works) (work_on g (c s).works)
    works g =
        rw (ap (λ u. work_on g u.works) hand)
        (subst (λ ws. WorkKeptIn (work_on g ws) (work_on g (changed_work f (learned_work i w) y.works))) three.works (cell_kept f g i w y.works))

    -- what is to be shown
    pub record CellAct : Type 0 where
      pub entry : i < held (sizes_of n) m b f → (demand_at (kind_at m f).kind i (m2 (Cell f i)) ≡ entry_demand m f i) ⊎ NewEntry n m2 c f i
      pub fixed : IsTrue (is_live (kind_at m f)) → (kind_at m f).kind ≡ kinds.Desc → i < 512 → IsTrue (is_fixed (m2 (Cell f i)))

    module _ (k : CellAct) where
      entries : EntriesAfter n m m2 b c
      entries g j l =
          let was : j < held (sizes_of n) m b g = rw (quiet_held n s x m m2 b c one kinds_same works g) at l in
          elim (same_or_other (Cell g j) (Cell f i)) [
            | inr off ↦ inl (quiet_entry n s x m m2 b c one kinds_same works g j (λ h. rw (same (Cell g j) off) refl) l)
            | inl at ↦
                let p : g ≡ f = cc in
                let q : j ≡ i = cc in
                elim (k.entry (rw (p, q) at was)) [
                  | inl asks ↦ inl (quiet_entry n s x m m2 b c one kinds_same works g j (λ h. rw (p, q) asks) l)
                  | inr new ↦ inr (rw (p, q) new)
                ]
          ]

      owners : OwnersStay m m2
      owners = same_owners m m2 (λ g. same (Refs g) (λ e. cc)) (λ d. same (Priv d) (λ e. cc))

      fixed_after : (g j : ℕ) → IsTrue (is_live (kind_at m2 g)) → (kind_at m2 g).kind ≡ kinds.Desc → j < 512 → IsTrue (is_fixed (m2 (Cell g j)))
      fixed_after g j live desc l =
          let was = rw (kinds_same g) at live in
          let kind = rw (kinds_same g) at desc in
          elim (same_or_other (Cell g j) (Cell f i)) [
            | inr off ↦ rw (same (Cell g j) off) (sound.valid.fixed g j was kind l)
            | inl at ↦ (let p : g ≡ f = cc in let q : j ≡ i = cc in rw (p, q) (k.fixed (rw p at was) (rw p at kind) (rw q at l)))
          ]

      pub cell_valid : Valid (sizes_of n) m2 c
      cell_valid =
          valid_law n m m2 b c
          (record {
            entries = entries;
            leads = λ g j h t now l e leads. quiet_leads n s x m m2 b c one kinds_same works g j h leads;
            fixed = fixed_after;
            contexts = λ v j g l h u e. rw (kinds_same g) (sound.valid.contexts v j g l h u (sym (same (Vcpu v j) (λ r. cc)) ∙ e));
          })
          sound.valid

      pub cell_permitted : Permitted n m2 c
      cell_permitted =
          permitted_law n s m m2 b c real sound
          (record { entries = entries; owners = owners; contexts = contexts_permitted n s m m2 b real sound owners (λ v j u. same (Vcpu v j) (λ e. cc)) })
