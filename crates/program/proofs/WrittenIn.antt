-- A call acts as the same retuning with its numbers written in.
-- Assumes nothing.
use mathlib.Core.Path.{◌≡◌, refl, sym, ◌∙◌, ap, subst}
use mathlib.Core.Bool.{Bool, true, false}
use mathlib.Core.Logic.{⊎_elim}
use mathlib.Core.List.{List, [], ◌∷◌, ◌++◌, map, map-append, append_assoc}
use Prim.Native.Nat.{ℕ, zero, suc, ◌+◌, ◌<◌}
use native.Mathlib.Omega.{arith}
use borrow.Author.Tests.{eqb-true}
use lib.Dec.{eqb}
use lib.ListN.{length, get_or, drop, get_or-append}
use lib.Seq.{get_or-append-add}
use Rattle.grammar.specs.declared.Kind.{Kind}
use Rattle.grammar.specs.declared.Kind.TheVariants.{Retuning}
use Rattle.grammar.specs.declared.Form.{Form}
use Rattle.grammar.specs.declared.Item.{Item}
use Rattle.grammar.specs.declared.Item.TheVariants as item
use Rattle.grammar.specs.Reading.{read_items}
use Rattle.symbols.specs.Names.{name_at}
use Rattle.names.specs.Names.{Named, declared}
use Rattle.names.specs.Inner.{beginnings}
use Rattle.names.proofs.Meanings.{AllMean, accepted as meant-well}
use Rattle.placeholders.specs.declared.Seen.{Seen}
use Rattle.placeholders.specs.declared.Seen.TheVariants.{Other, Declares, Names, Wants, Calls, Hands}
use Rattle.std.specs.Prelude.{Option, Some, None}
use Rattle.placeholders.specs.declared.Wanted.{Wanted}
use Rattle.placeholders.specs.declared.writing.WrittenCall.{WrittenCall}
use Rattle.placeholders.specs.Placeholders.{seen, after, handed, is_among, takes, fault_from, fault_of}
use Rattle.placeholders.specs.Filling.{wanted_by, written_for, renamed, Filled, filled_from, filled_in}
use Rattle.placeholders.proofs.Alike.{Alike, same, start, order, none, alike_drop, alike_beginnings, alike_declared}
use Rattle.placeholders.proofs.FilledLaws.{if_wanted, filled_by, call_is, filled_step, filled_alike, filled_length, fillings, settled_done}
use Rattle.placeholders.proofs.FilledLaws as laws
use Rattle.values.proofs.Cases.{impossible}
use Rattle.program.specs.Program.{Declaration, ratio, root, sequence, frequency, from, system, anchor, width, fresh_period, onward_period, tones, pattern, logic, harmony, asking, declaration_of, parts_of, Placed, Program, program_of}
use Rattle.program.specs.Meaning.{nothing, declaration_at}
use Rattle.program.specs.Allowed.{Each, kind_of, order_count}
use Rattle.program.specs.WrittenIn.{written_in, written_retuning, meant_items, one_of, CallsWritten}
use Rattle.program.proofs.Formed.{TermItems, no_term_holds, add_term, subtract_term, PositionItems, no_position, muted_position, kept_position, tone_position}
use Rattle.program.proofs.Formed.{NameItems, no_name_case, a_name, NotEmpty, something, Body, anchor_kept_case, width_kept_case, an_amount, an_amount_name, after_names, fresh_period_case, onward_period_case, a_tones}
use Rattle.program.proofs.Formed.{FormedText, start_count}
use Rattle.program.proofs.Declares.{names_past, Inside, no_item, plain, declares_fit}
use Rattle.program.proofs.AlikeItems.{split, formed_alike}
use Rattle.program.proofs.Standing.{Stands, stands, names_wanted, parts_whole}
use Rattle.program.proofs.ReadFormed.{read_formed}
use Rattle.program.proofs.Numbered.{formed_meant}
use Rattle.program.proofs.AcceptedText.{steps}
use Rattle.program.proofs.FilledText.{formed_handy, Handy, Small, Fillings, fillings_formed, fillings_from, handed_small, written_small, BelowBy, Below, calls_below}
use Rattle.program.proofs.AllowedText.{filling, filled, alike, program_filled, items_program}

-- ---- the retuning's own items, with numbers written in

module _ (text : List ℕ) (b : List Item) (ns : List ℕ) where
  abbrev written : List Item → List Item
  written is = map (written_in text b ns) is

  terms_fixed : {n : ℕ} {is : List Item} → TermItems n is → written is ≡ is
  terms_fixed no_term_holds = refl
  terms_fixed (add_term {f = f} {q = q} h w) = ap (λ (l : List Item). item.Add f q ∷ l) (terms_fixed w)
  terms_fixed (subtract_term {f = f} {q = q} h w) = ap (λ (l : List Item). item.Subtract f q ∷ l) (terms_fixed w)

  positions_fixed : {n : ℕ} {is : List Item} → PositionItems n is → written is ≡ is
  positions_fixed no_position = refl
  positions_fixed (muted_position w) = ap (λ (l : List Item). item.MutedPosition ∷ l) (positions_fixed w)
  positions_fixed (kept_position {ts = ts} {is = is} t w) = rw (map-append, terms_fixed t, positions_fixed w)
  positions_fixed (tone_position {ts = ts} {is = is} t w) = rw (map-append, terms_fixed t, positions_fixed w)

  names_fixed : {n : ℕ} {is : List Item} → NameItems n is → written is ≡ is
  names_fixed no_name_case = refl
  names_fixed (a_name {q = q} w) = ap (λ (l : List Item). item.Placeholder q ∷ l) (names_fixed w)

  tones_unwanted : {n : ℕ} {is : List Item} (rest : List Item) → PositionItems n is → NotEmpty is → wanted_by (is ++ rest) ≡ None
  unfolding wanted_by
  tones_unwanted rest no_position x = elim x [ ]
  tones_unwanted rest (muted_position w) something = refl
  tones_unwanted rest (kept_position t w) something = refl
  tones_unwanted rest (tone_position t w) something = refl

  -- what a retuning's items declare then: itself, where it wants nothing, or its form with the number
  abbrev AsWanted : List Item → Option Wanted → Type 0
  AsWanted is None = declaration_of (written is) ≡ declaration_of is
  AsWanted is (Some w) = declaration_of (written is) ≡ asking w.form (written_for text b ns w.name)

  as_wanted : {is : List Item} (rest : List Item) → Body Retuning is → AsWanted is (wanted_by (is ++ rest))
  unfolding wanted_by
  as_wanted rest anchor_kept_case = refl
  as_wanted rest width_kept_case = refl
  as_wanted rest (an_amount h) = refl
  as_wanted rest an_amount_name = refl
  as_wanted rest (fresh_period_case w) = ap (λ (l : List Item). declaration_of (item.Period ∷ l)) (terms_fixed w)
  as_wanted rest (onward_period_case w) = ap (λ (l : List Item). declaration_of (item.Period ∷ item.Onward ∷ l)) (terms_fixed w)
  as_wanted rest (a_tones {is = is} w s) = subst (AsWanted is) (sym (tones_unwanted rest w s)) (ap declaration_of (positions_fixed w))
  as_wanted rest (after_names {ns = ms} {is = is} w c) =
      subst (AsWanted (ms ++ is)) (sym (ap wanted_by (append_assoc ms is rest) ∙ names_wanted (is ++ rest) w)) (behind (wanted_by (is ++ rest)) (as_wanted rest c))
    where
      past : declaration_of (written (ms ++ is)) ≡ declaration_of (written is)
      past = ap declaration_of (map-append (written_in text b ns) ms is) ∙ ap (λ (l : List Item). declaration_of (l ++ written is)) (names_fixed w) ∙ names_past (written is) w

      behind : (x : Option Wanted) → AsWanted is x → AsWanted (ms ++ is) x
      behind None e = past ∙ e ∙ sym (names_past is w)
      behind (Some w) e = past ∙ e

-- ---- a retuning has no calls, so that it stays as it is

inside_same : {is js : List Item} → Inside 0 0 is → Alike is js → is ≡ js
inside_same no_item none = refl
inside_same (plain {i = i} h w) (same a) = ap (λ (l : List Item). i ∷ l) (inside_same w a)
inside_same (plain h w) (start a) = absurd h
inside_same (plain h w) (order a) = absurd h

no_logic_holds : (d : Declaration) → kind_of d ≡ Retuning → (order_count d ≡ 0) × (start_count d ≡ 0)
no_logic_holds (ratio a b) e = (refl, refl)
no_logic_holds (root a b) e = (refl, refl)
no_logic_holds (sequence ts) e = (refl, refl)
no_logic_holds (frequency f) e = (refl, refl)
no_logic_holds (from k ts) e = (refl, refl)
no_logic_holds (system a l ts) e = (refl, refl)
no_logic_holds (anchor m) e = (refl, refl)
no_logic_holds (width m) e = (refl, refl)
no_logic_holds (fresh_period ts) e = (refl, refl)
no_logic_holds (onward_period ts) e = (refl, refl)
no_logic_holds (tones l) e = (refl, refl)
no_logic_holds pattern e = (refl, refl)
no_logic_holds (logic c s os) e = impossible (cc)
no_logic_holds (harmony ks) e = (refl, refl)

retuning_same : {is js : List Item} → Body Retuning is → Alike is js → is ≡ js
retuning_same {is} b a =
    let d = declares_fit [] b in
    let n = no_logic_holds (declaration_of is) d.kind in
    inside_same (subst (λ (k : ℕ). Inside k 0 is) n.0 (subst (λ (k : ℕ). Inside (order_count (declaration_of is)) k is) n.1 d.inside)) a

-- ---- the call at item j

-- what it names in r, where n is the first number of a retuning that is filled in, and what that declares, by what the called retuning wants
abbrev CallIn : List ℕ → Filled → ℕ → ℕ → ℕ → ℕ → ℕ → List ℕ → List Item → Option Wanted → Type 0
CallIn text r count n j q k ns b None = seen (one_of r.items j) ≡ Calls q k
CallIn text r count n j q k ns b (Some w) =
    (c : ℕ) × (c < count) × (seen (one_of r.items j) ≡ Calls q (n + c)) × (declaration_at (program_of r.more) c ≡ asking w.form (written_for text b ns w.name))

abbrev count_by : Option WrittenCall → ℕ → ℕ
count_by x m = elim x [ None ↦ m | Some y ↦ suc m ]

module _ (text : List ℕ) (body : ℕ → List Item) where
  seen_renamed : (n : ℕ) (i : Item) {q k : ℕ} → seen i ≡ Calls q k → seen (renamed n i) ≡ Calls q n
  seen_renamed n i e = ⊎_elim (λ h. rw h) (λ h. rw h) (call_is i e)

  -- what is filled in first
  first_declared : (q : ℕ) (f : Form) (v : ℕ) (is : List Item) {c : ℕ} → Small v → Fillings c is
      → declaration_at (program_of (item.Declared Retuning q ∷ item.Amount f v ∷ is)) 0 ≡ asking f v
  unfolding program_of
  first_declared q f v is h w = ap declaration_of (parts_whole (an_amount {f = f} {n = v} h) (fillings_formed w))

  -- what is filled in after it
  next_declared : (q : ℕ) (f : Form) (v : ℕ) (is : List Item) (c : ℕ)
      → declaration_at (program_of (item.Declared Retuning q ∷ item.Amount f v ∷ is)) (suc c) ≡ declaration_at (program_of is) c
  unfolding program_of
  next_declared q f v is c = refl

  -- a call that is the first item
  call_here : (n : ℕ) (i : Item) (is : List Item) (q k : ℕ) → seen i ≡ Calls q k → Each Handy is → (y : Option WrittenCall) → laws.written_in text body i is ≡ y
      → y ≡ if_wanted text (body k) q (handed is) (wanted_by (body k))
      → CallIn text (filled_by y i n (filled_from text body n is) (filled_from text body (suc n) is)) (count_by y (fillings text body is)) n 0 q k (handed is) (body k)
      (wanted_by (body k))
  call_here n i is q k e h y x z =
      subst (λ (u : Option WrittenCall). CallIn text (filled_by u i n (filled_from text body n is) (filled_from text body (suc n) is)) (count_by u (fillings text body is)) n 0 q k
      (handed is) (body k) (wanted_by (body k))) (sym z) (by (wanted_by (body k)) (x ∙ z))
    where
      by : (w : Option Wanted) → laws.written_in text body i is ≡ if_wanted text (body k) q (handed is) w
          → CallIn text (filled_by (if_wanted text (body k) q (handed is) w) i n (filled_from text body n is) (filled_from text body (suc n) is))
          (count_by (if_wanted text (body k) q (handed is) w) (fillings text body is)) n 0 q k (handed is) (body k) w
      by None a = e
      by (Some w) a =
          let v = written_for text (body k) (handed is) w.name in
          let m : n ≡ n + 0 = omega arith in (
            0,
            omega arith,
            seen_renamed n i e ∙ ap (Calls q) m,
            first_declared q w.form v (filled_from text body (suc n) is).more (written_small text body i is (handed_small is h) a) (fillings_from text body (suc n) is h),
          )

  -- a call after the first item
  call_later : (n : ℕ) (i : Item) (is : List Item) (j q k : ℕ) (ns : List ℕ) (b : List Item) (w : Option Wanted)
      → ((m : ℕ) → CallIn text (filled_from text body m is) (fillings text body is) m j q k ns b w) → (y : Option WrittenCall)
      → CallIn text (filled_by y i n (filled_from text body n is) (filled_from text body (suc n) is)) (count_by y (fillings text body is)) n (suc j) q k ns b w
  call_later n i is j q k ns b None rest None = rest n
  call_later n i is j q k ns b None rest (Some y) = rest (suc n)
  call_later n i is j q k ns b (Some w) rest None = rest n
  call_later n i is j q k ns b (Some w) rest (Some y) =
      let r = rest (suc n) in
      let l = r.1 in
      let m : suc n + r.0 ≡ n + suc r.0 = omega arith in
      (suc r.0, omega arith, r.2 ∙ ap (Calls q) m, next_declared y.place y.form y.number (filled_from text body (suc n) is).more r.0 ∙ r.3)

  pub call_at : (n : ℕ) (is : List Item) → Each Handy is → (j q k : ℕ) → j < length is → seen (one_of is j) ≡ Calls q k
      → CallIn text (filled_from text body n is) (fillings text body is) n j q k (handed (drop (suc j) is)) (body k) (wanted_by (body k))
  unfolding fillings
  call_at n [] h j q k l e = absurd (omega arith)
  call_at n (i ∷ is) h zero q k l e =
      rw (filled_step text body n i is) (call_here n i is q k e h.1 (laws.written_in text body i is) refl (ap (λ (s : Seen). laws.written_by text body s is) e))
  call_at n (i ∷ is) h (suc j) q k l e =
      rw (filled_step text body n i is)
      (call_later n i is j q k (handed (drop (suc j) is)) (body k) (wanted_by (body k)) (λ m. call_at m is h.1 j q k (omega arith) e) (laws.written_in text body i is))

-- ---- "giving as many whole numbers": where there is no fault, each call does

module _ (text : List ℕ) (takes : ℕ → ℕ) where
  pub counts_right_step : (before : List ℕ) (is : List Item) → fault_from text takes before is ≡ None → (j q k : ℕ) → j < length is → seen (one_of is j) ≡ Calls q k
      → length (handed (drop (suc j) is)) ≡ takes k
  unfolding fault_from
  counts_right_step before [] z j q k l e = absurd (omega arith)
  counts_right_step before (i ∷ is) z zero q k l e = here (seen i) e z
    where
      counted : (b : Bool) → eqb (length (handed is)) (takes k) ≡ b → ◌≡◌ {A = Option ℕ} (elim b [ true ↦ fault_from text takes before is | false ↦ Some q ]) None
          → length (handed is) ≡ takes k
      counted true c y = eqb-true (length (handed is)) (takes k) c
      counted false c y = impossible (cc)

      here : (s : Seen) → s ≡ Calls q k
          → ◌≡◌ {A = Option ℕ} (elim s [
            | Other ↦ fault_from text takes before is
            | Declares ↦ fault_from text takes [] is
            | Names p ↦ elim (is_among text before (name_at text p)) [ true ↦ Some p | false ↦ fault_from text takes (before ++ p ∷ []) is ]
            | Wants f p ↦ elim (is_among text before (name_at text p)) [ true ↦ fault_from text takes before is | false ↦ Some p ]
            | Calls q k ↦ elim (eqb (length (handed is)) (takes k)) [ true ↦ fault_from text takes before is | false ↦ Some q ]
            | Hands n ↦ fault_from text takes before is
          ]) None
          → length (handed is) ≡ takes k
      here s x y = counted (eqb (length (handed is)) (takes k)) refl (rw x at y)
  counts_right_step before (i ∷ is) z (suc j) q k l e = later (seen i) z (λ b y. counts_right_step b is y j q k (omega arith) e)
    where
      named_once : (p : ℕ) (b : Bool) → ◌≡◌ {A = Option ℕ} (elim b [ true ↦ Some p | false ↦ fault_from text takes (before ++ p ∷ []) is ]) None
          → ((b : List ℕ) → fault_from text takes b is ≡ None → length (handed (drop (suc j) is)) ≡ takes k) → length (handed (drop (suc j) is)) ≡ takes k
      named_once p true y rest = impossible (cc)
      named_once p false y rest = rest (before ++ p ∷ []) y

      right : (p : ℕ) (b : Bool) → ◌≡◌ {A = Option ℕ} (elim b [ true ↦ fault_from text takes before is | false ↦ Some p ]) None
          → ((b : List ℕ) → fault_from text takes b is ≡ None → length (handed (drop (suc j) is)) ≡ takes k) → length (handed (drop (suc j) is)) ≡ takes k
      right p true y rest = rest before y
      right p false y rest = impossible (cc)

      later : (s : Seen)
          → ◌≡◌ {A = Option ℕ} (elim s [
            | Other ↦ fault_from text takes before is
            | Declares ↦ fault_from text takes [] is
            | Names p ↦ elim (is_among text before (name_at text p)) [ true ↦ Some p | false ↦ fault_from text takes (before ++ p ∷ []) is ]
            | Wants f p ↦ elim (is_among text before (name_at text p)) [ true ↦ fault_from text takes before is | false ↦ Some p ]
            | Calls q k ↦ elim (eqb (length (handed is)) (takes k)) [ true ↦ fault_from text takes before is | false ↦ Some q ]
            | Hands n ↦ fault_from text takes before is
          ]) None
          → ((b : List ℕ) → fault_from text takes b is ≡ None → length (handed (drop (suc j) is)) ≡ takes k) → length (handed (drop (suc j) is)) ≡ takes k
      later Other y rest = rest before y
      later Declares y rest = rest [] y
      later (Names p) y rest = named_once p (is_among text before (name_at text p)) y rest
      later (Wants f p) y rest = right p (is_among text before (name_at text p)) y rest
      later (Calls a c) y rest = right a (eqb (length (handed is)) (takes c)) y rest
      later (Hands n) y rest = rest before y

-- ---- each call of an accepted text

module _ (text : List ℕ) (js : List Item) (v : FormedText js) (k : ℕ) (below : k < length (declared js)) (ns : List ℕ) where
  abbrev there : Stands js k
  there = stands v.formed k below

  -- in front of what is filled in
  old_declared : declaration_at (program_of (filled_in text js)) k ≡ declaration_at (program_of (filling text js v).items) k
  old_declared =
      let r = filling text js v in
      ap (λ (p : Program). declaration_at p k) (program_filled text js v)
      ∙ ap (λ (d : Placed). d.is) (get_or-append (program_of r.items) (program_of r.more) nothing k (omega (arith, items_program text js v)))

  after_alike : Alike (after js k) (after (filling text js v).items k)
  after_alike =
      let r = filling text js v in
      let b : beginnings r.items ≡ beginnings js = alike_beginnings 0 (alike text js v) in
      subst (λ (l : List ℕ). Alike (after js k) (drop (suc (get_or l k 0)) r.items)) (sym b) (alike_drop (suc (get_or (beginnings js) k 0)) (alike text js v))

  module _ (shape : Body Retuning there.body) where
    -- the items are those that were there
    own_parts : declaration_at (program_of (filled_in text js)) k ≡ declaration_of there.body
    own_parts =
        let r = filling text js v in
        let f = formed_alike v.formed (alike text js v) in
        let s = stands f k (omega (arith, below, ap length (alike_declared (alike text js v)))) in
        let a = split there.body there.rest (subst (λ (l : List Item). Alike l (after r.items k)) there.items after_alike) in
        let e : after r.items k ≡ there.body ++ a.second =
        sym a.joined ∙ ap (λ (l : List Item). l ++ a.second) (sym (retuning_same shape a.left)) in
        let p : parts_of (after r.items k) ≡ there.body = ap parts_of e ∙ parts_whole shape (formed_alike there.formed a.right) in
        let q : parts_of (after r.items k) ≡ s.body = ap parts_of s.items ∙ parts_whole s.shape s.formed in
        old_declared ∙ s.declares ∙ ap declaration_of (sym q ∙ p)

    written_parts : written_retuning text js k ns ≡ declaration_of (written text (after js k) ns there.body)
    written_parts = ap (λ (l : List Item). declaration_of (written text (after js k) ns l)) (ap parts_of there.items ∙ parts_whole shape there.formed)

    wanted_parts : AsWanted text (after js k) ns there.body (wanted_by (after js k))
    wanted_parts = subst (λ (l : List Item). AsWanted text (after js k) ns there.body (wanted_by l)) (sym there.items) (as_wanted text (after js k) ns there.rest shape)

-- a call names a declaration of the text
at_below : {n : ℕ} (is : List Item) → Below n is → (j q k : ℕ) → j < length is → seen (one_of is j) ≡ Calls q k → k < n
at_below [] w j q k l e = absurd (omega arith)
at_below {n} (i ∷ is) w zero q k l e = subst (BelowBy n) e w.0
at_below (i ∷ is) w (suc j) q k l e = at_below is w.1 j q k (omega arith) e

module _ (text : List ℕ) (js : List Item) (v : FormedText js) (m : AllMean (declared js) js) (right : fault_of text js ≡ None) where
  abbrev filled_text : Program
  filled_text = program_of (filled_in text js)

  -- an item of the text is where it was
  still : (j : ℕ) → j < length js → one_of (filled_in text js) j ≡ one_of (filling text js v).items j
  unfolding filled_in
  still j l =
      let r = filling text js v in
      get_or-append r.items r.more item.MutedPosition j (omega (arith, filled_length text (after js) (length (declared js)) js))

  module _ (j q k : ℕ) (l : j < length js) (e : seen (one_of js j) ≡ Calls q k) (kind : kind_of (declaration_at filled_text k) ≡ Retuning) where
    abbrev numbers : List ℕ
    numbers = handed (drop (suc j) js)

    below : k < length (declared js)
    below = at_below js (calls_below (declared js) js m) j q k l e

    shape : Body Retuning (stands v.formed k below).body
    shape =
        let s = stands v.formed k below in
        let r = stands (formed_alike v.formed (alike text js v)) k (omega (arith, below, ap length (alike_declared (alike text js v)))) in
        let one : Named = record { kind = Retuning; place = 0 } in
        let a : r.kind ≡ Retuning = sym (declares_fit [] r.shape).kind ∙ ap kind_of (sym r.declares ∙ sym (old_declared text js v k below numbers)) ∙ kind in
        let b : s.kind ≡ r.kind = sym (s.named one) ∙ ap (λ (ds : List Named). (get_or ds k one).kind) (sym (alike_declared (alike text js v))) ∙ r.named one in
        subst (λ (x : Kind). Body x s.body) (b ∙ a) s.shape

    by_wanting : (w : Option Wanted) → wanted_by (after js k) ≡ w
        → CallIn text (filling text js v) (filled text js v) (length (declared js)) j q k numbers (after js k) w
        → AsWanted text (after js k) numbers (stands v.formed k below).body w
        → (c : ℕ) × (seen (one_of (filled_in text js) j) ≡ Calls q c) × (declaration_at filled_text c ≡ written_retuning text js k numbers)
    by_wanting None x c a =
        (k, ap seen (still j l) ∙ c, own_parts text js v k below numbers shape ∙ sym a ∙ sym (written_parts text js v k below numbers shape))
    by_wanting (Some w) x c a =
        let r = filling text js v in
        let n = length (declared js) in
        let z : length (program_of r.items) + c.0 ≡ n + c.0 = omega (arith, items_program text js v) in (
          n + c.0,
          ap seen (still j l) ∙ c.2,
          ap (λ (y : Program). declaration_at y (n + c.0)) (program_filled text js v)
              ∙ ap (λ (y : ℕ). declaration_at (program_of r.items ++ program_of r.more) y) (sym z)
              ∙ ap (λ (d : Placed). d.is) (get_or-append-add (program_of r.items) (program_of r.more) c.0 nothing) ∙ c.3 ∙ sym a
              ∙ sym (written_parts text js v k below numbers shape),
        )

    call_written : (c : ℕ) × (seen (one_of (filled_in text js) j) ≡ Calls q c) × (declaration_at filled_text c ≡ written_retuning text js k numbers)
    call_written =
        by_wanting (wanted_by (after js k)) refl (call_at text (after js) (length (declared js)) js (formed_handy v.formed) j q k l e)
        (wanted_parts text js v k below numbers shape)

    as_many_numbers : length numbers ≡ takes js k
    as_many_numbers = counts_right_step text (takes js) [] js right j q k l e

-- **document 02, 1/13**: "So called it must act as the same retuning with those numbers written in, proved once over all its kinds"
pub calls_written : CallsWritten
unfolding CallsWritten
calls_written text p e j q k l c kind =
    let s = steps text p e in
    let is = (read_items text).items in
    let js = meant_items text in
    let v = formed_meant text is (read_formed text s.read) s.meant in
    let a = (meant-well text is s.meant).settles in
    let m = subst (λ ds. AllMean ds js) (sym a.same_names) a.means in
    let f = settled_done text js s.filled in
    let same : program_of (filled_in text js) ≡ p = ap program_of (sym f.1) ∙ s.program in
    let w = call_written text js v m f.0 j q k l c (ap (λ (y : Program). kind_of (declaration_at y k)) same ∙ kind) in
    record {
      many = as_many_numbers text js v m f.0 j q k l c (ap (λ (y : Program). kind_of (declaration_at y k)) same ∙ kind);
      called = w.0;
      names = w.1;
      acts = ap (λ (y : Program). declaration_at y w.0) (sym same) ∙ w.2;
    }
