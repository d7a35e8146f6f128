-- The plain functions change, beside frames, only the own words that they name; and no frame comes by the mark that keeps it.
use Rattle.std.proofs.Common.{◌≡◌, ℕ, zero, suc, ◌+◌, ◌<◌, ◌==◌, ◌&&◌, is_none, if◌then◌else◌, Bool, true, false, List, [], ◌∷◌, Option, Some, None, refl, ◌∙◌, subst, inl, inr, arith}
use Rattle.std.proofs.lemmas.Bool.Decides.{nat_tests}
use Rattle.xp_words.specs.ContextWords.{ldt_read, ldt_write}
use Rattle.xp_words.specs.Entries.{fixed, frame_of}
use Rattle.xp_words.specs.Machine.{Machine}
use Rattle.xp_words.specs.declared.context.LdtBase.{LdtBase}
use Rattle.xp_words.specs.declared.kind.PageType.TheVariants.{Desc}
use Rattle.xp_words.specs.declared.reply.Refusal.{Refusal}
use Rattle.xp_words.specs.declared.reply.Refusal.TheVariants.{BadRange, NotMapped}
use Rattle.xp_board.specs.KindSteps.{raised_kind}
use Rattle.xp_board.specs.Readings.{is_dead, is_type}
use Rattle.kind_words.specs.Kinds.{live_kind, work_kind}
use Rattle.context_words.specs.Names.{naming}
use Rattle.desc_pages.specs.Descriptors.{descriptor_refusal, frame_at, index_at}
use Rattle.desc_pages.specs.Gdt.{gdt_refusal, page_at}
use Rattle.desc_pages.specs.Ldt.{ldt_base, ldt_refusal}
use Rattle.ldt_pages.specs.Touching.{is_beyond, refusal_at, touch_address}
use Rattle.step_maker.specs.Licences.{is_unmapped}
use Rattle.tlb_walks.specs.Addresses.{index_of}
use Rattle.tlb_walks.specs.Walks.{barrier_with}
use Rattle.table_law.specs.Alone.{Cause, OtherType, PlainOutcome, alone, fine, is_counted, refused, take_kind, take_reference}
use Rattle.table_law.specs.Exchange.{with_cell}
use Rattle.table_law.specs.Levels.{closed}
use Rattle.table_law.specs.Plain.{Plain, reference_back, with_kind}
use Rattle.table_law.specs.Release.{let_go}
use Rattle.script_law.specs.Frames.{back_named, rename, write_memory}
use Rattle.script_law.specs.Pages.{clear_frame, copy_frame, filled_page, fix_descriptor, get_page, get_pages, give_page, put_descriptor, set_descriptor, set_gdt, set_ldt, take_page, with_fixed, with_page}
use Rattle.script_law.specs.Repeats.{each_below, first_of}
use Rattle.script_law.specs.Values.{Solo, Numbers, Outcome, Why, allowed, back_behind, behind, behind_by, did, looked, looked_by, next_behind, or_back, stopped, then_do, with_frames, with_own}
use Rattle.script_law.specs.Walks.{Leads, Stops, Way, from_base, path, take_touched, touch_by, touch_ldt, touched}
use Rattle.solo_ports.proofs.Unkept.{by_alone, by_closed, by_kind, by_let_go, by_reference}
use Rattle.solo_pages.specs.Kept.{IsGdtWord, IsLdtWord, IsPageWord, KeepsBeside}
use Rattle.solo_pages.proofs.Renaming.{kept_given}

module _ (named : ℕ → Type 0) where
  abbrev Keeps : Solo → Solo → Type 0
  Keeps = KeepsBeside named

  abbrev Next : (Solo → Outcome) → Type 0
  Next next = (x : Solo) → Keeps x (next x).left

  abbrev Unkept : Plain → Plain → Type 0
  Unkept p q = (g : ℕ) → (p.kinds g).kept ≡ false → (q.kinds g).kept ≡ false

  keeps_self : (x : Solo) → Keeps x x
  keeps_self x = record { unkept = λ g e. e; maps = refl; privileges = refl; lives = refl; own = λ k off. refl }

  keeps_trans : (x y z : Solo) → Keeps x y → Keeps y z → Keeps x z
  keeps_trans x y z a b =
      record { unkept = λ g e. b.unkept g (a.unkept g e); maps = b.maps ∙ a.maps; privileges = b.privileges ∙ a.privileges; lives = b.lives ∙ a.lives; own = λ k off. b.own k off ∙ a.own k off }

  framed : (x : Solo) (p : Plain) → Unkept x.frames p → Keeps x (with_frames p x)
  framed x p u = record { unkept = u; maps = refl; privileges = refl; lives = refl; own = λ k off. refl }

  -- ---- one behind another
  behind_keeps : (x : Solo) (o : PlainOutcome) (next : Solo → Outcome) → Unkept x.frames o.left → Next next → Keeps x (behind x o next).left
  behind_keeps x o next u n = by o.refusal
    where
      by : (r : Option Cause) → Keeps x (behind_by x o r next).left
      by None = keeps_trans x (with_frames o.left x) (next (with_frames o.left x)).left (framed x o.left u) (n (with_frames o.left x))
      by (Some c) = framed x o.left u

  looked_keeps : (m : Machine) (d f : ℕ) (x : Solo) (next : Solo → Outcome) → Next next → Keeps x (looked m d f x next).left
  looked_keeps m d f x next n = by (take_reference m d f x.frames).refusal
    where
      by : (r : Option Cause) → Keeps x (looked_by r x next).left
      by None = n x
      by (Some c) = keeps_self x

  back_keeps : (x : Solo) (o : Outcome) (back : Plain → Plain) → Keeps x o.left → ((p : Plain) → Unkept p (back p)) → Keeps x (or_back o back).left
  back_keeps x o back a u = by o.refusal
    where
      by : (r : Option Why) → Keeps x (back_behind o r back).left
      by None = a
      by (Some y) = keeps_trans x o.left (with_frames (back o.left.frames) o.left) a (framed o.left (back o.left.frames) (u o.left.frames))

  then_keeps : (x : Solo) (o : Outcome) (next : Solo → Outcome) → Keeps x o.left → Next next → Keeps x (then_do o next).left
  then_keeps x o next a n = by o.refusal
    where
      by : (r : Option Why) → Keeps x (next_behind o r next).left
      by None = keeps_trans x o.left (next o.left).left a (n o.left)
      by (Some y) = a

  allowed_keeps : (r : Option Refusal) (x : Solo) (o : Outcome) → Keeps x o.left → Keeps x (allowed r x o).left
  allowed_keeps None x o a = a
  allowed_keeps (Some y) x o a = keeps_self x

  if_keeps : (b : Bool) (x : Solo) (o q : Outcome) → Keeps x o.left → Keeps x q.left → Keeps x (if b then o else q).left
  if_keeps true x o q a c = a
  if_keeps false x o q a c = c

  -- ---- whole frames
  pub clear_keeps : (m : Machine) (d f : ℕ) → Next (clear_frame m d f)
  clear_keeps m d f x = behind_keeps x (alone m d 0 f x.frames) _ (λ g e. by_alone g m d 0 f x.frames e) (λ y. framed y (let_go 0 f (with_page f (λ i. 0) y.frames)) (λ g e. by_let_go g 0 f (with_page f (λ i. 0) y.frames) e))

  pub copy_keeps : (m : Machine) (d to from : ℕ) → Next (copy_frame m d to from)
  copy_keeps m d to from x =
      behind_keeps x (alone m d 0 to x.frames) _ (λ g e. by_alone g m d 0 to x.frames e)
      (λ y. back_keeps y (looked m d from y (λ z. did (with_frames (let_go 0 to (with_page to (z.frames.cells from) z.frames)) z))) (let_go 0 to)
      (looked_keeps m d from y _ (λ z. framed z (let_go 0 to (with_page to (z.frames.cells from) z.frames)) (λ g e. by_let_go g 0 to (with_page to (z.frames.cells from) z.frames) e))) (λ p g e. by_let_go g 0 to p e))

  -- ---- descriptor pages
  filled_keeps : (f : ℕ) (x : Solo) (o : Option ℕ) → Keeps x (filled_page f x o).left
  filled_keeps f x None = framed x (with_kind f (live_kind Desc 1) (with_fixed f 512 x.frames)) (λ g e. by_kind g f (live_kind Desc 1) (with_fixed f 512 x.frames) refl e)
  filled_keeps f x (Some i) = framed x (closed f Desc (with_fixed f i x.frames)) (λ g e. by_closed g f Desc (with_fixed f i x.frames) e)

  raised_at : (f g : ℕ) (p : Plain) (b : Bool) → (g == f) ≡ b → (p.kinds g).kept ≡ false → (if b then raised_kind (p.kinds f) else p.kinds g).kept ≡ false
  raised_at f g p true is e = let same : g ≡ f = grind (arith, nat_tests) in subst (λ h. (p.kinds h).kept ≡ false) same e
  raised_at f g p false is e = e

  kind_keeps : (f : ℕ) (p : Plain) → Unkept p (take_kind fine f Desc p (p.kinds f)).left
  kind_keeps f p = by (is_dead (p.kinds f)) (is_counted (p.kinds f) && is_type (p.kinds f).kind Desc)
    where
      by : (a b : Bool) →
          Unkept p (if a then fine (with_kind f (live_kind Desc 1) (with_kind f (work_kind Desc false 0) p)) else if b then fine (with_kind f (raised_kind (p.kinds f)) p) else refused (OtherType f Desc (p.kinds f)) (reference_back f p)).left
      by true b g e = by_kind g f (live_kind Desc 1) (with_kind f (work_kind Desc false 0) p) refl (by_kind g f (work_kind Desc false 0) p refl e)
      by false true g e = raised_at f g p (g == f) refl e
      by false false g e = e

  page_keeps : (f : ℕ) (x : Solo) → Keeps x (take_page f x (x.frames.kinds f)).left
  page_keeps f x =
      if_keeps (is_dead (x.frames.kinds f)) x (filled_page f x (first_of 512 0 (λ i. is_none (fixed (x.frames.cells f i))))) (behind x (take_kind fine f Desc x.frames (x.frames.kinds f)) did)
      (filled_keeps f x (first_of 512 0 (λ i. is_none (fixed (x.frames.cells f i))))) (behind_keeps x (take_kind fine f Desc x.frames (x.frames.kinds f)) did (kind_keeps f x.frames) keeps_self)

  get_keeps : (m : Machine) (d f : ℕ) → Next (get_page m d f)
  get_keeps m d f x = behind_keeps x (take_reference m d f x.frames) _ (λ g e. by_reference g m d f x.frames e) (λ y. page_keeps f y)

  given_keeps : (f : ℕ) (p : Plain) → Unkept p (give_page f p)
  given_keeps f p g e = kept_given f g p e

  -- ---- single descriptors
  put_keeps : (m : Machine) (d f i word : ℕ) → Next (put_descriptor m d f i word)
  put_keeps m d f i word x = then_keeps x (get_page m d f x) _ (get_keeps m d f x) (λ y. framed y (give_page f (with_cell f i word y.frames)) (given_keeps f (with_cell f i word y.frames)))

  memory_keeps : (m : Machine) (d f i word : ℕ) → Next (write_memory m d f i word)
  memory_keeps m d f i word x = behind_keeps x (alone m d 0 f x.frames) _ (λ g e. by_alone g m d 0 f x.frames e) (λ y. framed y (let_go 0 f (with_cell f i word y.frames)) (λ g e. by_let_go g 0 f (with_cell f i word y.frames) e))

  fix_keeps : (m : Machine) (d f i word : ℕ) (o : Option ℕ) (x : Solo) → Keeps x (fix_descriptor m d f i word x o).left
  fix_keeps m d f i word None x = keeps_self x
  fix_keeps m d f i word (Some new) x =
      if_keeps ((x.frames.kinds f).validated && is_type (x.frames.kinds f).kind Desc) x (put_descriptor m d f i new x) (write_memory m d f i new x) (put_keeps m d f i new x) (memory_keeps m d f i new x)

  pub descriptor_keeps : (m : Machine) (d address word : ℕ) → Next (set_descriptor m d address word)
  descriptor_keeps m d address word x =
      allowed_keeps (descriptor_refusal address) x (looked m d (frame_at address) x (λ z. fix_descriptor m d (frame_at address) (index_at address) word z (fixed word)))
      (looked_keeps m d (frame_at address) x _ (λ z. fix_keeps m d (frame_at address) (index_at address) word (fixed word) z))

  -- ---- words that name pages
  back_named_keeps : (old : ℕ) (p : Plain) → Unkept p (back_named give_page old p)
  back_named_keeps zero p g e = e
  back_named_keeps (suc f) p g e = kept_given f g p e

  own_by : (b : Bool) (k j word : ℕ) (x : Solo) → (j == k) ≡ b → named k → (named j → ⊥) → (if b then word else x.own j) ≡ x.own j
  own_by true k j word x is here off = absurd (let same : k ≡ j = grind (arith, nat_tests) in off (subst named same here))
  own_by false k j word x is here off = refl

  own_keeps : (k word : ℕ) (x : Solo) → named k → Keeps x (with_own k word x)
  own_keeps k word x here = record { unkept = λ g e. e; maps = refl; privileges = refl; lives = refl; own = λ j off. own_by (j == k) k j word x refl here off }

  rename_keeps : (k word : ℕ) (x : Solo) → named k → Keeps x (rename give_page k word x)
  rename_keeps k word x here =
      let y = with_frames (back_named give_page (x.own k) x.frames) x in
      keeps_trans x y (with_own k word y) (framed x (back_named give_page (x.own k) x.frames) (back_named_keeps (x.own k) x.frames)) (own_keeps k word y here)

  each_keeps : (many : ℕ) (one : ℕ → Solo → Solo) (x : Solo) → ((k : ℕ) (y : Solo) → k < many → Keeps y (one k y)) → Keeps x (each_below many one x)
  unfolding each_below
  each_keeps zero one x keeps = keeps_self x
  each_keeps (suc k) one x keeps =
      keeps_trans x (each_below k one x) (one k (each_below k one x)) (each_keeps k one x (λ j y low. keeps j y (omega (arith, low)))) (keeps k (each_below k one x) (omega arith))

  pages_keep : (m : Machine) (d : ℕ) (fs : List ℕ) → Next (get_pages m d fs)
  unfolding get_pages
  pages_keep m d [] x = keeps_self x
  pages_keep m d (f ∷ fs) x = then_keeps x (get_page m d f x) _ (get_keeps m d f x) (λ y. back_keeps y (get_pages m d fs y) (give_page f) (pages_keep m d fs y) (given_keeps f))

  pub gdt_keeps : (m : Machine) (d entries : ℕ) (fs : List ℕ) → ((k : ℕ) → IsGdtWord k → named k) → Next (set_gdt m d entries fs)
  gdt_keeps m d entries fs all x =
      let one : ℕ → Solo → Solo = λ k. rename give_page (8 + k) (naming (page_at fs k)) in
      allowed_keeps (gdt_refusal entries fs) x (then_do (get_pages m d fs x) (λ z. did (each_below 14 one z)))
      (then_keeps x (get_pages m d fs x) (λ z. did (each_below 14 one z)) (pages_keep m d fs x) (λ z. each_keeps 14 one z (λ k y low. rename_keeps (8 + k) (naming (page_at fs k)) y (all (8 + k) (omega arith, omega (arith, low))))))

  pub ldt_keeps : (address entries : ℕ) → ((k : ℕ) → IsLdtWord k → named k) → Next (set_ldt address entries)
  ldt_keeps address entries all x =
      let one : ℕ → Solo → Solo = λ k. rename give_page (22 + k) 0 in
      let y = each_below 16 one x in
      allowed_keeps (ldt_refusal address entries) x (did (with_own 7 (ldt_write (ldt_base address entries)) y))
      (keeps_trans x y (with_own 7 (ldt_write (ldt_base address entries)) y) (each_keeps 16 one x (λ k z low. rename_keeps (22 + k) 0 z (all (22 + k) (inr (omega arith, omega (arith, low)))))) (own_keeps 7 (ldt_write (ldt_base address entries)) y (all 7 (inl refl))))

  -- ---- a page of the LDT that is touched: a walk changes cells alone
  abbrev way_left : Way → Plain
  way_left (Leads f b p) = p
  way_left (Stops r p) = p

  either : (off : Bool) (one other : Way) (g : ℕ) → ((way_left one).kinds g).kept ≡ false → ((way_left other).kinds g).kept ≡ false → ((way_left (if off then one else other)).kinds g).kept ≡ false
  either true one other g a c = a
  either false one other g a c = c

  path_keeps : (m : Machine) (va : ℕ) (write : Bool) (l table : ℕ) (b : Option ℕ) (p : Plain) → Unkept p (way_left (path m va write l table b p))
  unfolding path
  path_keeps m va write zero table b p g e = e
  path_keeps m va write (suc l) table b p g e =
      let w = p.cells table (index_of va (suc l)) in
      let c = barrier_with b w in
      let q = with_cell table (index_of va (suc l)) (touched write (suc l) c w) p in
      either (is_unmapped m w) (Stops (NotMapped (suc l) w) q) (path m va write l (frame_of w) c q) g e (path_keeps m va write l (frame_of w) c q g e)

  base_keeps : (m : Machine) (va : ℕ) (write : Bool) (base : ℕ) (p : Plain) → Unkept p (way_left (from_base m va write base p))
  base_keeps m va write zero p g e = e
  base_keeps m va write (suc table) p g e = path_keeps m va write 4 table None p g e

  taken_keeps : (m : Machine) (d page : ℕ) (x : Solo) (way : Way) → named (22 + page) → Unkept x.frames (way_left way) → Keeps x (take_touched m d page x way).left
  taken_keeps m d page x (Leads f b p) here u =
      then_keeps x (get_page m d f (with_frames p x)) _ (keeps_trans x (with_frames p x) (get_page m d f (with_frames p x)).left (framed x p u) (get_keeps m d f (with_frames p x))) (λ y. rename_keeps (22 + page) (f + 1) y here)
  taken_keeps m d page x (Stops r p) here u = framed x p u

  touch_by_keeps : (m : Machine) (d page : ℕ) (x : Solo) (b : Option LdtBase) (word : ℕ) → named (22 + page) → Keeps x (touch_by m d page x b word).left
  touch_by_keeps m d page x None word here = keeps_self x
  touch_by_keeps m d page x (Some b) zero here =
      let way = from_base m (touch_address page b) false (x.own 0) x.frames in
      allowed_keeps (refusal_at page (Some b)) x (take_touched m d page x way) (taken_keeps m d page x way here (base_keeps m (touch_address page b) false (x.own 0) x.frames))
  touch_by_keeps m d page x (Some b) (suc f) here = if_keeps (is_beyond page b) x (stopped (Numbers BadRange) x) (did x) (keeps_self x) (keeps_self x)

  pub touch_keeps : (m : Machine) (d page : ℕ) → named (22 + page) → Next (touch_ldt m d page)
  touch_keeps m d page here x = touch_by_keeps m d page x (ldt_read (x.own 7)) (x.own (22 + page)) here

-- ---- each with the words that it names
pub clears_beside : (n : Machine) (d f : ℕ) (x : Solo) → KeepsBeside (λ k. ⊥) x (clear_frame n d f x).left
clears_beside n d f x = clear_keeps (λ k. ⊥) n d f x

pub copies_beside : (n : Machine) (d to from : ℕ) (x : Solo) → KeepsBeside (λ k. ⊥) x (copy_frame n d to from x).left
copies_beside n d to from x = copy_keeps (λ k. ⊥) n d to from x

pub descriptors_beside : (n : Machine) (d address word : ℕ) (x : Solo) → KeepsBeside (λ k. ⊥) x (set_descriptor n d address word x).left
descriptors_beside n d address word x = descriptor_keeps (λ k. ⊥) n d address word x

pub gdt_beside : (n : Machine) (d entries : ℕ) (fs : List ℕ) (x : Solo) → KeepsBeside IsGdtWord x (set_gdt n d entries fs x).left
gdt_beside n d entries fs x = gdt_keeps IsGdtWord n d entries fs (λ k is. is) x

pub ldt_beside : (address entries : ℕ) (x : Solo) → KeepsBeside IsLdtWord x (set_ldt address entries x).left
ldt_beside address entries x = ldt_keeps IsLdtWord address entries (λ k is. is) x

pub touches_beside : (n : Machine) (d page : ℕ) (x : Solo) → KeepsBeside (IsPageWord page) x (touch_ldt n d page x).left
touches_beside n d page x = touch_keeps (IsPageWord page) n d page refl x
