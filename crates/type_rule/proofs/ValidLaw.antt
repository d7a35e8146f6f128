-- What recorded entries and words of vCPUs lead to, and whom they are permitted, after an act: what has to be shown.
use Rattle.std.proofs.Common.{◌≡◌, ◌≢◌, ℕ, ◌+◌, ◌<◌, ◌⊎◌, Option, Some, None, IsTrue, sym, ◌∙◌, inl, inr, arith}
use Rattle.xp_words.specs.declared.kind.PageType.{PageType}
use Rattle.xp_words.specs.declared.kind.PageType.TheVariants as kinds
use Rattle.xp_words.specs.declared.entry.Demand.TheVariants.{Bad, Read, Typed}
use Rattle.xp_words.specs.Machine.{Machine}
use Rattle.xp_words.specs.declared.place.Place.{Place}
use Rattle.xp_words.specs.declared.place.Place.TheVariants.{Vcpu, Refs, Cell, Priv}
use Rattle.xp_words.specs.Places.{sizes_of}
use Rattle.xp_board.specs.declared.holdings.Holdings.{Holdings}
use Rattle.xp_board.specs.Readings.{kind_at, ref_count, owner_of, has_ever, domain_of, is_live, is_context}
use Rattle.xp_board.specs.Recorded.{held, entry_demand}
use Rattle.xp_board.specs.Valid.{Valid, LeadsWell, is_live_context, Permitted, PermitsOwner, EntryPermitted}
use Rattle.xp_board.specs.After.{is_fixed}
use Rattle.xp_board.specs.Sound.{Sound}
use Rattle.type_rule.proofs.EntryChange.{OldEntry}
use Rattle.type_rule.proofs.Counted.{entry_counted, context_counted}
use Rattle.xp_board.proofs.Counted.{type_below, plain_counted}
use Rattle.xp_board.proofs.Recordless.{table_counted}

-- an entry that is new, or asks something else than before
pub record NewEntry (n : Machine) (m2 : Place → ℕ) (c : ℕ → Holdings) (f i : ℕ) : Type 0 where
  pub allowed : entry_demand m2 f i ≢ Bad
  pub leads : (g : ℕ) (t : PageType) → entry_demand m2 f i ≡ Typed g t → LeadsWell (sizes_of n) m2 c f i g
  pub typed : (g : ℕ) (t : PageType) → entry_demand m2 f i ≡ Typed g t → EntryPermitted m2 (kind_at m2 f).kind (owner_of (m2 (Refs f))) g
  pub plain : (g : ℕ) → entry_demand m2 f i ≡ Read g → EntryPermitted m2 (kind_at m2 f).kind (owner_of (m2 (Refs f))) g

abbrev pub EntriesAfter : Machine → (Place → ℕ) → (Place → ℕ) → (ℕ → Holdings) → (ℕ → Holdings) → Type 0
EntriesAfter n m m2 b c = (f i : ℕ) → i < held (sizes_of n) m2 c f → OldEntry n m m2 b f i ⊎ NewEntry n m2 c f i

pub record ValidChange (n : Machine) (m m2 : Place → ℕ) (b c : ℕ → Holdings) : Type 0 where
  pub entries : EntriesAfter n m m2 b c
  pub leads : (f i g : ℕ) (t : PageType) → i < held (sizes_of n) m2 c f → i < held (sizes_of n) m b f → entry_demand m f i ≡ Typed g t → LeadsWell (sizes_of n) m b f i g → LeadsWell (sizes_of n) m2 c f i g
  pub fixed : (f i : ℕ) → IsTrue (is_live (kind_at m2 f)) → (kind_at m2 f).kind ≡ kinds.Desc → i < 512 → IsTrue (is_fixed (m2 (Cell f i)))
  pub contexts : (v k g : ℕ) → v < (sizes_of n).vcpus → k < 38 → IsTrue (is_live_context k) → m2 (Vcpu v k) ≡ g + 1 → IsTrue (is_live (kind_at m2 g))

pub valid_law : (n : Machine) (m m2 : Place → ℕ) (b c : ℕ → Holdings) → ValidChange n m m2 b c → Valid (sizes_of n) m b → Valid (sizes_of n) m2 c
valid_law n m m2 b c k v =
    record {
      allowed = λ f i l bad. elim (k.entries f i l) [
        | inl old ↦ v.allowed f i old.was (sym old.demand ∙ bad)
        | inr new ↦ new.allowed bad
      ];
      live = λ f i g t l e. elim (k.entries f i l) [
        | inl old ↦ (let was = sym old.demand ∙ e in k.leads f i g t l old.was was (v.live f i g t old.was was))
        | inr new ↦ new.leads g t e
      ];
      fixed = k.fixed;
      contexts = k.contexts;
    }

-- owners of frames with a reference stay, and privileges that were had once
pub record OwnersStay (m m2 : Place → ℕ) : Type 0 where
  pub owner : (g : ℕ) → 0 < ref_count (m (Refs g)) → owner_of (m2 (Refs g)) ≡ owner_of (m (Refs g))
  pub ever : (d o : ℕ) → IsTrue (has_ever o (m (Priv d))) → IsTrue (has_ever o (m2 (Priv d)))

permits_by : (m m2 : Place → ℕ) (d : ℕ) (o : Option ℕ) → OwnersStay m m2 → PermitsOwner m d o → PermitsOwner m2 d o
permits_by m m2 d None k p = p
permits_by m m2 d (Some o) k (inl own) = inl own
permits_by m m2 d (Some o) k (inr ever) = inr (k.ever d o ever)

pub entry_permitted : (m m2 : Place → ℕ) (kind : PageType) (o : Option ℕ) (g : ℕ) → OwnersStay m m2 → 0 < ref_count (m (Refs g)) → EntryPermitted m kind o g → EntryPermitted m2 kind o g
entry_permitted m m2 kind None g k some p = p
entry_permitted m m2 kind (Some d) g k some (inl own) = inl (k.owner g some ∙ own)
entry_permitted m m2 kind (Some d) g k some (inr (low, p)) = inr (low, rw (k.owner g some) (permits_by m m2 d (owner_of (m (Refs g))) k p))

pub record PermittedChange (n : Machine) (m m2 : Place → ℕ) (b c : ℕ → Holdings) : Type 0 where
  pub entries : EntriesAfter n m m2 b c
  pub owners : OwnersStay m m2
  pub contexts : (v k g : ℕ) → v < (sizes_of n).vcpus → k < 38 → IsTrue (is_live_context k) → m2 (Vcpu v k) ≡ g + 1 →
      owner_of (m2 (Refs g)) ≡ Some (domain_of n v)

module _ (n : Machine) (s : ℕ) (m m2 : Place → ℕ) (b c : ℕ → Holdings) (real : s < (sizes_of n).vcpus) (sound : Sound n m b) (k : PermittedChange n m m2 b c) where
  old_typed : (f i g : ℕ) (t : PageType) → OldEntry n m m2 b f i → entry_demand m2 f i ≡ Typed g t → EntryPermitted m2 (kind_at m2 f).kind (owner_of (m2 (Refs f))) g
  old_typed f i g t old e =
      let was = sym old.demand ∙ e in
      let counted = entry_counted n m b s f i g t sound real old.was was in
      let below = type_below (sizes_of n) m b g sound.counts in
      rw (old.kind, k.owners.owner f (table_counted n m b f i sound old.was))
      (entry_permitted m m2 _ _ g k.owners (omega arith) (sound.permitted.typed f i g t old.was was))

  old_plain : (f i g : ℕ) → OldEntry n m m2 b f i → entry_demand m2 f i ≡ Read g → EntryPermitted m2 (kind_at m2 f).kind (owner_of (m2 (Refs f))) g
  old_plain f i g old e =
      let was = sym old.demand ∙ e in
      rw (old.kind, k.owners.owner f (table_counted n m b f i sound old.was))
      (entry_permitted m m2 _ _ g k.owners (plain_counted n m b f i g sound old.was was) (sound.permitted.plain f i g old.was was))

  pub permitted_law : Permitted n m2 c
  permitted_law =
      record {
        typed = λ f i g t l e. elim (k.entries f i l) [ inl old ↦ old_typed f i g t old e | inr new ↦ new.typed g t e ];
        plain = λ f i g l e. elim (k.entries f i l) [ inl old ↦ old_plain f i g old e | inr new ↦ new.plain g e ];
        contexts = k.contexts;
      }

-- words of vCPUs that stay
pub live_is_context : (j : ℕ) → IsTrue (is_live_context j) → IsTrue (is_context j)
live_is_context j u = grind arith

pub contexts_permitted : (n : Machine) (s : ℕ) (m m2 : Place → ℕ) (b : ℕ → Holdings) → s < (sizes_of n).vcpus → Sound n m b → OwnersStay m m2 →
    ((v j : ℕ) → IsTrue (is_context j) → m2 (Vcpu v j) ≡ m (Vcpu v j)) → (v j g : ℕ) → v < (sizes_of n).vcpus → j < 38 → IsTrue (is_live_context j) →
    m2 (Vcpu v j) ≡ g + 1 → owner_of (m2 (Refs g)) ≡ Some (domain_of n v)
contexts_permitted n s m m2 b real sound owners same v j g l h u e =
    let was : m (Vcpu v j) ≡ g + 1 = sym (same v j (live_is_context j u)) ∙ e in
    let counted = context_counted n m b s v j g sound.counts real l h (live_is_context j u) was in
    let below = type_below (sizes_of n) m b g sound.counts in
    owners.owner g (omega arith) ∙ sound.permitted.contexts v j g l h u was
