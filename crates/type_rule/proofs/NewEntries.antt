-- An entry that a vCPU makes or records: it is allowed, leads well, and its owner is permitted the frame.
use Rattle.std.proofs.Common.{◌≡◌, ℕ, ◌<◌, ◌||◌, ◌⊎◌, true, Some, IsTrue, refl, sym, ◌∙◌, ap, inl, inr}
use Rattle.xp_words.specs.declared.kind.PageType.{PageType}
use Rattle.xp_words.specs.declared.entry.Demand.{Demand}
use Rattle.xp_words.specs.declared.entry.Demand.TheVariants.{Nothing, Bad, Read, Typed}
use Rattle.xp_words.specs.Entries.{is_lowest}
use Rattle.xp_words.specs.Machine.{Machine}
use Rattle.xp_words.specs.declared.place.Place.{Place}
use Rattle.xp_words.specs.declared.place.Place.TheVariants.{Refs, Kind, Priv}
use Rattle.xp_words.specs.Places.{sizes_of}
use Rattle.xp_board.specs.declared.holdings.Holdings.{Holdings}
use Rattle.xp_board.specs.Steps.{some_since}
use Rattle.xp_board.specs.Readings.{kind_at, owner_of, has_now, has_ever}
use Rattle.xp_board.specs.Settling.{OwnersMeet, HasDemand}
use Rattle.xp_board.specs.Recorded.{entry_demand}
use Rattle.xp_board.specs.Valid.{EntryPermitted}
use Rattle.xp_board.specs.Sound.{Sound}
use Rattle.xp_board.proofs.StepLists.{found_since}
use Rattle.type_rule.proofs.ValidLaw.{NewEntry}
use Rattle.xp_board.proofs.RefWords.{owner_few}

had_by : (o w : ℕ) → has_now o w ≡ true → IsTrue (has_now o w || has_ever o w)
had_by o w e = rw e refl

module _ (n : Machine) (s : ℕ) (m m2 : Place → ℕ) (b c : ℕ → Holdings) (real : s < (sizes_of n).vcpus) (sound : Sound n m b)
    (refs : (f : ℕ) → m2 (Refs f) ≡ m (Refs f)) (kinds : (f : ℕ) → m2 (Kind f) ≡ m (Kind f)) (privs : (d : ℕ) → m2 (Priv d) ≡ m (Priv d)) where
  -- the owners that the vCPU knows meet
  meets : (f g : ℕ) (t : PageType) → (k : OwnersMeet n f g t (b s)) → (frame : ℕ) → owner_of (m (Refs g)) ≡ Some k.frame →
      (k.frame ≡ k.table) ⊎ (IsTrue (is_lowest t) × IsTrue (some_since (sizes_of n) (b s).turn (Priv k.table) (has_now k.frame) (b s).steps)) → EntryPermitted m2 t (Some k.table) g
  meets f g t k frame known (inl same) = inl (rw (refs g) (known ∙ ap Some same))
  meets f g t k frame known (inr lower) =
      let few = owner_few n m b g k.frame sound known in
      let ever : IsTrue (has_ever k.frame (m (Priv k.table))) =
      found_since (sizes_of n) (b s).turn (Priv k.table) (has_now k.frame)
      (λ w. IsTrue (has_now k.frame w || has_ever k.frame w) → IsTrue (has_ever k.frame (m (Priv k.table)))) (b s).steps
      ((sound.found s real).privileges k.table k.frame few) lower.1 (λ w e p. p (had_by k.frame w e)) in
      inr (lower.0, rw (refs g, known) (inr (rw (privs k.table) ever)))

  pub owners_permit : (f g : ℕ) (t : PageType) → OwnersMeet n f g t (b s) → EntryPermitted m2 t (owner_of (m2 (Refs f))) g
  owners_permit f g t k =
      let table = (sound.found s real).owners f k.table k.table_known in
      let frame = (sound.found s real).owners g k.frame k.frame_known in
      rw (refs f, table) (meets f g t k k.frame frame k.meet)

  -- a demand that is in hand
  pub demand_new : (f i : ℕ) (t : PageType) (d : Demand) → (kind_at m f).kind ≡ t → entry_demand m2 f i ≡ d → HasDemand n f t (b s) d → NewEntry n m2 c f i
  demand_new f i t Bad kind e has = absurd has
  demand_new f i t Nothing kind e has =
      record { allowed = λ q. let r = sym e ∙ q in cc; leads = λ g u q. let r = sym e ∙ q in absurd (cc); typed = λ g u q. let r = sym e ∙ q in absurd (cc); plain = λ g q. let r = sym e ∙ q in absurd (cc) }
  demand_new f i t (Read h) kind e has =
      record {
        allowed = λ q. let r = sym e ∙ q in cc;
        leads = λ g u q. let r = sym e ∙ q in absurd (cc);
        typed = λ g u q. let r = sym e ∙ q in absurd (cc);
        plain = λ g q. let r : Read h ≡ Read g = sym e ∙ q in let at : h ≡ g = cc in rw (kinds f, kind) (rw (sym at) (owners_permit f h t has.owners));
      }
  demand_new f i t (Typed h v) kind e has =
      record {
        allowed = λ q. let r = sym e ∙ q in cc;
        leads = λ g u q. let r : Typed h v ≡ Typed g u = sym e ∙ q in let at : h ≡ g = cc in inl (rw (kinds g) (rw (sym at) ((sound.found s real).lives h v has.1).0));
        typed = λ g u q. let r : Typed h v ≡ Typed g u = sym e ∙ q in let at : h ≡ g = cc in rw (kinds f, kind) (rw (sym at) (owners_permit f h t has.0.owners));
        plain = λ g q. let r = sym e ∙ q in absurd (cc);
      }
