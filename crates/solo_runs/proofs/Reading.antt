-- A report reads few words: two lists that agree on these have one report.
use Rattle.std.proofs.Common.{◌≡◌, ℕ, zero, suc, ◌+◌, ◌<◌, Bool, true, false, List, [], ◌∷◌, ◌++◌, length, cond, refl, ap, ◌∙◌, subst, arith, if◌then◌else◌}
use Rattle.std.specs.Prelude.{slice_index, slice_index_or, count_by, fold, codes, decimal}
use Rattle.std.specs.List.{flat_map, range_with_len}
use Rattle.xp_words.specs.Machine.{Machine}
use Rattle.xp_words.specs.Places.{memory, sizes_of}
use Rattle.xp_words.specs.declared.place.Place.TheVariants.{Kind, Life, M2p, Pages, Refs, Vcpu}
use Rattle.xp_words.specs.declared.reply.LogLine.{LogLine}
use Rattle.report_text.specs.LogTexts.{log_lines}
use Rattle.report_text.specs.Memories.{Memory, word}
use Rattle.report_text.specs.ReportOf.{domain_line, domain_lines, frame_by, frame_text, frame_texts, free_frames, free_line, is_free_word, pending_line, report_of, text_of, vcpu_line, vcpu_text, vcpu_texts}

-- ---- the same text or the same answer for each of a range
texts_from : (f g : ℕ → List ℕ) (a n : ℕ) → ((k : ℕ) → k < a + n → f k ≡ g k) → flat_map f (range_with_len a n) ≡ flat_map g (range_with_len a n)
texts_from f g a zero same = refl
texts_from f g a (suc n) same =
    ap (λ x. x ++ flat_map f (range_with_len (a + 1) n)) (same a (omega arith))
    ∙ ap (λ x. g a ++ x) (texts_from f g (a + 1) n (λ k less. same k (omega arith)))

texts_same : (f g : ℕ → List ℕ) (n : ℕ) → ((k : ℕ) → k < n → f k ≡ g k) → flat_map f (range_with_len 0 n) ≡ flat_map g (range_with_len 0 n)
texts_same f g n same = texts_from f g 0 n (λ k less. same k (omega arith))

counts_from : (p q : ℕ → Bool) (a n from : ℕ) → ((k : ℕ) → k < a + n → p k ≡ q k) →
    fold (λ x y. x + cond (p y) 1 0) from (range_with_len a n) ≡ fold (λ x y. x + cond (q y) 1 0) from (range_with_len a n)
counts_from p q a zero from same = refl
counts_from p q a (suc n) from same =
    ap (λ b. fold (λ x y. x + cond (p y) 1 0) (from + cond b 1 0) (range_with_len (a + 1) n)) (same a (omega arith))
    ∙ counts_from p q (a + 1) n (from + cond (q a) 1 0) (λ k less. same k (omega arith))

counts_same : (p q : ℕ → Bool) (n : ℕ) → ((k : ℕ) → k < n → p k ≡ q k) → count_by p (range_with_len 0 n) ≡ count_by q (range_with_len 0 n)
counts_same p q n same = counts_from p q 0 n 0 (λ k less. same k (omega arith))

-- ---- what a report reads of the words: few of them as they are, and of each frame whether it is free, and its line
pub record ReadsAlike (n : Machine) (a b : List ℕ) : Type 0 where
  pub only : length n.vcpu_domain ≡ 1
  pub own : (k : ℕ) → k < 4 → memory (sizes_of n) a (Vcpu 0 k) ≡ memory (sizes_of n) b (Vcpu 0 k)
  pub lives : (d : ℕ) → d < length n.page_limit → memory (sizes_of n) a (Life d) ≡ memory (sizes_of n) b (Life d)
  pub pages : (d : ℕ) → d < length n.page_limit → memory (sizes_of n) a (Pages d) ≡ memory (sizes_of n) b (Pages d)
  pub free : (f : ℕ) → f < n.frames → is_free_word (memory (sizes_of n) a (Refs f)) ≡ is_free_word (memory (sizes_of n) b (Refs f))
  pub frames : (f : ℕ) → f < n.frames → is_free_word (memory (sizes_of n) b (Refs f)) ≡ false →
      frame_by f (memory (sizes_of n) a (Refs f)) (memory (sizes_of n) a (Kind f)) (memory (sizes_of n) a (M2p f)) ≡ frame_by f (memory (sizes_of n) b (Refs f)) (memory (sizes_of n) b (Kind f)) (memory (sizes_of n) b (M2p f))

module _ (n : Machine) (a b : List ℕ) (same : ReadsAlike n a b) where
  abbrev one : Memory
  one = record { machine = n; words = a }

  abbrev two : Memory
  two = record { machine = n; words = b }

  own_line : vcpu_line one 0 ≡ vcpu_line two 0
  unfolding vcpu_line word
  own_line = rw (same.own 0 (omega arith)) (rw (same.own 1 (omega arith)) (rw (same.own 2 (omega arith)) (rw (same.own 3 (omega arith)) refl)))

  first_line : (v : ℕ) → v < length n.vcpu_domain → vcpu_line one v ≡ vcpu_line two v
  first_line v less = let only = same.only in let none : 0 ≡ v = omega arith in subst (λ k. vcpu_line one k ≡ vcpu_line two k) none own_line

  vcpus_same : (logs : List (List LogLine)) (pending : List ℕ) → vcpu_texts one logs pending (length n.vcpu_domain) ≡ vcpu_texts two logs pending (length n.vcpu_domain)
  unfolding vcpu_texts vcpu_text
  vcpus_same logs pending =
      texts_same (λ v. vcpu_text one (slice_index_or logs v []) (slice_index pending v) v) (λ v. vcpu_text two (slice_index_or logs v []) (slice_index pending v) v) (length n.vcpu_domain)
      (λ v less. ap (λ x. x ++ (log_lines (slice_index_or logs v []) ++ pending_line (slice_index pending v))) (first_line v less))

  domain_same : (d : ℕ) → d < length n.page_limit → domain_line one d ≡ domain_line two d
  unfolding domain_line word
  domain_same d less = rw (same.lives d less) (rw (same.pages d less) refl)

  domains_same : domain_lines one (length n.page_limit) ≡ domain_lines two (length n.page_limit)
  unfolding domain_lines
  domains_same = texts_same (domain_line one) (domain_line two) (length n.page_limit) domain_same

  -- a frame has a line unless it is free
  line_by : (free : Bool) (x y : List ℕ) → (free ≡ false → x ≡ y) → (if free then [] else x) ≡ (if free then [] else y)
  line_by true x y same = refl
  line_by false x y same = same refl

  frame_same : (f : ℕ) → f < n.frames → frame_text one f ≡ frame_text two f
  unfolding frame_text word
  frame_same f less =
      ap (λ x. if x then [] else frame_by f (memory (sizes_of n) a (Refs f)) (memory (sizes_of n) a (Kind f)) (memory (sizes_of n) a (M2p f))) (same.free f less)
      ∙ line_by (is_free_word (memory (sizes_of n) b (Refs f))) (frame_by f (memory (sizes_of n) a (Refs f)) (memory (sizes_of n) a (Kind f)) (memory (sizes_of n) a (M2p f))) (frame_by f (memory (sizes_of n) b (Refs f)) (memory (sizes_of n) b (Kind f)) (memory (sizes_of n) b (M2p f))) (same.frames f less)

  frames_same : frame_texts one n.frames ≡ frame_texts two n.frames
  unfolding frame_texts
  frames_same = texts_same (frame_text one) (frame_text two) n.frames frame_same

  free_same : free_line one ≡ free_line two
  unfolding free_line free_frames word
  free_same = ap (λ k. codes "free " ++ (decimal k ++ codes "\n")) (counts_same (λ f. is_free_word (memory (sizes_of n) a (Refs f))) (λ f. is_free_word (memory (sizes_of n) b (Refs f))) n.frames same.free)

  pub reports_same : (logs : List (List LogLine)) (pending : List ℕ) → report_of n a logs pending ≡ report_of n b logs pending
  unfolding text_of
  reports_same logs pending =
      ap (λ x. x ++ (domain_lines one (length n.page_limit) ++ (frame_texts one n.frames ++ (free_line one ++ codes "end\n")))) (vcpus_same logs pending)
      ∙ (ap (λ x. vcpu_texts two logs pending (length n.vcpu_domain) ++ (x ++ (frame_texts one n.frames ++ (free_line one ++ codes "end\n")))) domains_same
      ∙ (ap (λ x. vcpu_texts two logs pending (length n.vcpu_domain) ++ (domain_lines two (length n.page_limit) ++ (x ++ (free_line one ++ codes "end\n")))) frames_same
      ∙ ap (λ x. vcpu_texts two logs pending (length n.vcpu_domain) ++ (domain_lines two (length n.page_limit) ++ (frame_texts two n.frames ++ (x ++ codes "end\n")))) free_same))

-- ---- and of a log its text
module _ (n : Machine) (words : List ℕ) (only : length n.vcpu_domain ≡ 1) where
  abbrev here : Memory
  here = record { machine = n; words = words }

  first_text : (log other : List LogLine) → log_lines log ≡ log_lines other → (v : ℕ) → v < length n.vcpu_domain →
      vcpu_text here (slice_index_or (log ∷ []) v []) (slice_index (0 ∷ []) v) v ≡ vcpu_text here (slice_index_or (other ∷ []) v []) (slice_index (0 ∷ []) v) v
  unfolding vcpu_text
  first_text log other same zero less = ap (λ x. vcpu_line here 0 ++ (x ++ pending_line 0)) same
  first_text log other same (suc v) less = absurd (omega (arith, only))

  pub logs_alike : (log other : List LogLine) → log_lines log ≡ log_lines other → report_of n words (log ∷ []) (0 ∷ []) ≡ report_of n words (other ∷ []) (0 ∷ [])
  unfolding text_of vcpu_texts
  logs_alike log other same =
      ap (λ x. x ++ (domain_lines here (length n.page_limit) ++ (frame_texts here n.frames ++ (free_line here ++ codes "end\n"))))
      (texts_same (λ v. vcpu_text here (slice_index_or (log ∷ []) v []) (slice_index (0 ∷ []) v) v) (λ v. vcpu_text here (slice_index_or (other ∷ []) v []) (slice_index (0 ∷ []) v) v) (length n.vcpu_domain) (first_text log other same))
