-- Who names a frame that is named: the parts of the two counts.
use Rattle.std.proofs.Common.{◌≡◌, ℕ, ◌+◌, ◌<◌, ◌⊎◌, if◌then◌else◌, Bool, true, false, IsTrue, refl, ap, inl, inr, arith}
use Rattle.std.proofs.lemmas.Bool.{cases_eq, cases_Bool}
use Rattle.std.proofs.lemmas.Bool.Decides.{nat_tests}
use Rattle.xp_words.specs.RefWords.{bit}
use Rattle.xp_words.specs.declared.entry.Demand.{Demand}
use Rattle.xp_words.specs.declared.kind.KindWord.{KindWord}
use Rattle.xp_words.specs.declared.place.Place.{Place}
use Rattle.xp_words.specs.declared.place.Place.TheVariants.{Vcpu, Refs}
use Rattle.xp_words.specs.Places.{Sizes}
use Rattle.xp_board.specs.declared.holdings.Holdings.{Holdings}
use Rattle.xp_board.specs.Hands.{hand, typed_hand}
use Rattle.xp_board.specs.Lists.{one_at}
use Rattle.xp_board.specs.Readings.{allocated_mark, is_context, kind_at}
use Rattle.xp_board.specs.Recorded.{contexts, entries, entry_demand, held, marks, named, named_typed, names, names_typed, table_entries, work_of}
use Rattle.xp_board.specs.Sums.{sum_below}
use Rattle.xp_board.proofs.Sums.{hands-some, sum_below-some, some_bit, one_is, some_of}

-- an entry that c counts
pub record SomeEntry (c : Demand → ℕ) (z : Sizes) (m : Place → ℕ) (h : ℕ → Holdings) : Type 0 where
  pub table : ℕ
  pub index : ℕ
  pub recorded : index < held z m h table
  pub counted : 0 < c (entry_demand m table index)

pub some_entry : (c : Demand → ℕ) (z : Sizes) (m : Place → ℕ) (h : ℕ → Holdings) → 0 < entries c z m h → SomeEntry c z m h
unfolding entries table_entries
some_entry c z m h some =
    let t = sum_below-some z.frames (λ f. table_entries c m (work_of z.vcpus h f) f) some in
    let i = sum_below-some (held z m h t.0) (λ j. c (entry_demand m t.0 j)) t.2 in
    record { table = t.0; index = i.0; recorded = i.1; counted = i.2 }

-- a word of a vCPU that names the frame
pub record SomeWord (z : Sizes) (m : Place → ℕ) (g : ℕ) : Type 0 where
  pub vcpu : ℕ
  pub word : ℕ
  pub real : vcpu < z.vcpus
  pub inside : word < 38
  pub context : IsTrue (is_context word)
  pub names : m (Vcpu vcpu word) ≡ g + 1

pub some_word : (z : Sizes) (m : Place → ℕ) (g : ℕ) → 0 < contexts z m g → SomeWord z m g
unfolding contexts
some_word z m g some =
    let v = sum_below-some z.vcpus (λ w. sum_below 38 (λ k. if is_context k then one_at (g + 1) (m (Vcpu w k)) else 0)) some in
    let k = sum_below-some 38 (λ j. if is_context j then one_at (g + 1) (m (Vcpu v.0 j)) else 0) v.2 in
    let c = some_of (is_context k.0) (one_at (g + 1) (m (Vcpu v.0 k.0))) k.2 in
    record { vcpu = v.0; word = k.0; real = v.1; inside = k.1; context = c.0; names = one_is (g + 1) (m (Vcpu v.0 k.0)) c.1 }

-- ---- who names it
pub data NamedBy (z : Sizes) (m : Place → ℕ) (h : ℕ → Holdings) (g : ℕ) : Type 0 where
  entry_name : SomeEntry (names g) z m h → NamedBy z m h g
  word_name : SomeWord z m g → NamedBy z m h g
  allocated_name : 0 < allocated_mark (m (Refs g)) → NamedBy z m h g
  pinned_name : (kind_at m g).pinned ≡ true → NamedBy z m h g
  kept_name : (kind_at m g).kept ≡ true → NamedBy z m h g
  hand_name : (s : ℕ) → s < z.vcpus → 0 < hand g (h s) → NamedBy z m h g

some_mark : (k : KindWord) → 0 < marks k → (k.pinned ≡ true) ⊎ (k.kept ≡ true)
unfolding marks
some_mark k some =
    elim (cases_Bool k.pinned) [
      | inl on ↦ inl on
      | inr off ↦ (let z : bit k.pinned ≡ 0 = ap bit off in inr (some_bit k.kept (omega arith)))
    ]

pub who_names : (z : Sizes) (m : Place → ℕ) (h : ℕ → Holdings) (g : ℕ) → 0 < named z m h g → NamedBy z m h g
who_names z m h g some =
    elim (cases_eq (entries (names g) z m h) 0) [
      | inr e ↦ entry_name (some_entry (names g) z m h (omega arith))
      | inl no_entry ↦
          elim (cases_eq (contexts z m g) 0) [
            | inr e ↦ word_name (some_word z m g (omega arith))
            | inl no_word ↦
                elim (cases_eq (allocated_mark (m (Refs g))) 0) [
                  | inr e ↦ allocated_name (omega arith)
                  | inl no_mark ↦
                      elim (cases_eq (marks (kind_at m g)) 0) [
                        | inr e ↦ elim (some_mark (kind_at m g) (omega arith)) [ inl p ↦ pinned_name p | inr k ↦ kept_name k ]
                        | inl none ↦ (let s = hands-some (hand g) z h (omega arith) in hand_name s.0 s.1 s.2)
                      ]
                ]
          ]
    ]

pub data TypedBy (z : Sizes) (m : Place → ℕ) (h : ℕ → Holdings) (g : ℕ) : Type 0 where
  entry_type : SomeEntry (names_typed g) z m h → TypedBy z m h g
  word_type : SomeWord z m g → TypedBy z m h g
  pinned_type : (kind_at m g).pinned ≡ true → TypedBy z m h g
  kept_type : (kind_at m g).kept ≡ true → TypedBy z m h g
  hand_type : (s : ℕ) → s < z.vcpus → 0 < typed_hand g (h s) → TypedBy z m h g

pub who_types : (z : Sizes) (m : Place → ℕ) (h : ℕ → Holdings) (g : ℕ) → 0 < named_typed z m h g → TypedBy z m h g
who_types z m h g some =
    elim (cases_eq (entries (names_typed g) z m h) 0) [
      | inr e ↦ entry_type (some_entry (names_typed g) z m h (omega arith))
      | inl no_entry ↦
          elim (cases_eq (contexts z m g) 0) [
            | inr e ↦ word_type (some_word z m g (omega arith))
            | inl no_word ↦
                elim (cases_eq (marks (kind_at m g)) 0) [
                  | inr e ↦ elim (some_mark (kind_at m g) (omega arith)) [ inl p ↦ pinned_type p | inr k ↦ kept_type k ]
                  | inl none ↦ (let s = hands-some (typed_hand g) z h (omega arith) in hand_type s.0 s.1 s.2)
                ]
          ]
    ]
