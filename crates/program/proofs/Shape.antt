-- The items of a text that is read to its end are whole declarations, one after the other: by the rules of each node.
-- Assumes nothing.
use mathlib.Core.Path.{◌≡◌, refl, ◌∙◌, ap, subst}
use mathlib.Core.Bool.{Bool, true, false}
use mathlib.Core.List.{List, [], ◌∷◌}
use Rattle.std.specs.Prelude.{Some}
use Rattle.std.proofs.lemmas.Option.{none-some, same_Some}
use Prim.Native.Nat.{ℕ}
use Rattle.status.specs.Status.{done}
use Rattle.grammar.specs.declared.Kind.{Kind}
use Rattle.grammar.specs.declared.Kind.TheVariants.{Interval, Tone, System, Retuning, Logic, Harmony}
use Rattle.grammar.specs.declared.Action.TheVariants.{Pass}
use Rattle.grammar.specs.declared.Item.{Item}
use Rattle.grammar.specs.declared.Progress.{Progress}
use Rattle.grammar.specs.declared.terminals.Terminal.{Terminal}
use Rattle.grammar.specs.Syntax.{blocks, next_order, Rule, rules, Node, Begin, Finish, IntervalName, IntervalEquals, IntervalBody, IntervalKind, SecondPart, RootRadicand, IntervalSign, IntervalTerm, IntervalTermName, IntervalNext, ToneName, ToneEquals, ToneBody, ToneSign, ToneTerm, ToneTermName, ToneNext, SystemName, SystemEquals, SystemAnchor, SystemOpen, SystemFirst, SystemPosition, SystemComma, SystemPeriod, SystemSign, SystemTerm, SystemTermName, RetuningName, RetuningEquals, RetuningBody, RetuningInside, RetuningNext, AnchorOperator, AnchorPlusNumber, AnchorMinusNumber, AnchorOpen, AnchorClose, WidthBody, WidthOperator, WidthPlusNumber, WidthMinusNumber, WidthTimesNumber, WidthOverNumber, WidthClose, WidthBracket, PeriodBody, PeriodSign, PeriodTerm, PeriodTermName, TonesSign, TonesTerm, TonesTermName, TonesPosition, LogicName, LogicTrigger, LogicLetter, LogicEquals, LogicStart, LogicOpen, OrderTrigger, OrderLetter, OrderArrow, OrderName, LogicNext, HarmonyName, HarmonyEquals, HarmonyOpen, HarmonyKey, HarmonyStarred, HarmonyComma, HarmonyNext, PlaceholderName, PlaceholderComma, PlaceholderEquals, StartNumber, StartComma, StartOpen, OrderCalled, OrderNumber, OrderComma}
use Rattle.grammar.specs.Terminals.{same_terminal, picked, terminal_of}
use Rattle.grammar.specs.Reading.{read_items, begun}
use Rattle.grammar.proofs.Diagrams.{same_terminal_holds}
use Rattle.program.specs.Allowed.{Each}
use Rattle.program.proofs.Formed.{no_term_holds, no_order_holds, Formed, no_more}
use Rattle.program.proofs.Walk.{Kept, walk}
use Rattle.program.proofs.Ahead.{Stage, nothing, body, second_part, radicand, sequence, term, terms, period, place, places, positions, tone_term, tone_terms, names, start, orders, order, numbers, key, keys, no_item, Ahead, ahead, Fit, Move, keeps_ahead}
use Rattle.program.proofs.Steps.{passing, Ending, declaring, ending, frequency, amount, amount_name, names_begin, names_on, names_end, placeholder, anchor_same, width_same, hold, ratio_first, ratio_second, root_degree, root_radicand, fit_one}
use Rattle.program.proofs.TermSteps.{opens_term, opens_sequence, opens_interval, opens_period, sign, factor, named_term, factor_first, base, period_mark, period_onward, tone_sign, tone_factor, tone_term_step}
use Rattle.program.proofs.ListSteps.{next_place, no_more_places, system_anchor, muted_place_mark, tone_place_name, place_end, further, first, next_position, no_more_positions, muted_mark, kept_mark, tone_name, position_end, positions_may_end}
use Rattle.program.proofs.LogicSteps.{Orders, as_orders, after_numbers, no_more_numbers, numbers_end, numbers_on, call_number_step, logic_letter, logic_harmony, order_letter, order_harmony, start_name, start_none, order_key, order_name}
use Rattle.program.proofs.KeySteps.{harmony_opens, star, plain, starred, next_key, no_more_keys}

-- the stage at each node
abbrev stage : Node → Stage
stage Begin = nothing
stage Finish = nothing
stage IntervalName = nothing
stage IntervalEquals = body Interval
stage IntervalBody = body Interval
stage IntervalKind = body Interval
stage SecondPart = second_part
stage RootRadicand = radicand
stage IntervalSign = terms
stage IntervalTerm = term
stage IntervalTermName = term
stage IntervalNext = nothing
stage ToneName = nothing
stage ToneEquals = body Tone
stage ToneBody = body Tone
stage ToneSign = terms
stage ToneTerm = term
stage ToneTermName = term
stage ToneNext = nothing
stage SystemName = nothing
stage SystemEquals = body System
stage SystemAnchor = body System
stage SystemOpen = place
stage SystemFirst = place
stage SystemPosition = place
stage SystemComma = places
stage SystemPeriod = sequence
stage SystemSign = terms
stage SystemTerm = term
stage SystemTermName = term
stage RetuningName = nothing
stage RetuningEquals = body Retuning
stage RetuningBody = body Retuning
stage RetuningInside = body Retuning
stage RetuningNext = nothing
stage AnchorOperator = body Retuning
stage AnchorPlusNumber = body Retuning
stage AnchorMinusNumber = body Retuning
stage AnchorOpen = nothing
stage AnchorClose = nothing
stage WidthBody = body Retuning
stage WidthOperator = body Retuning
stage WidthPlusNumber = body Retuning
stage WidthMinusNumber = body Retuning
stage WidthTimesNumber = body Retuning
stage WidthOverNumber = body Retuning
stage WidthClose = nothing
stage WidthBracket = nothing
stage PeriodBody = period
stage PeriodSign = terms
stage PeriodTerm = term
stage PeriodTermName = term
stage TonesSign = tone_terms
stage TonesTerm = tone_term
stage TonesTermName = tone_term
stage TonesPosition = positions
stage LogicName = nothing
stage LogicTrigger = body Logic
stage LogicLetter = body Logic
stage LogicEquals = start
stage LogicStart = start
stage LogicOpen = numbers
stage OrderTrigger = orders
stage OrderLetter = orders
stage OrderArrow = order
stage OrderName = order
stage LogicNext = nothing
stage HarmonyName = nothing
stage HarmonyEquals = body Harmony
stage HarmonyOpen = body Harmony
stage HarmonyKey = key
stage HarmonyStarred = key
stage HarmonyComma = keys
stage HarmonyNext = nothing
stage PlaceholderName = names
stage PlaceholderComma = names
stage PlaceholderEquals = body Retuning
stage StartNumber = numbers
stage StartComma = numbers
stage StartOpen = orders
stage OrderCalled = numbers
stage OrderNumber = numbers
stage OrderComma = numbers

-- a rule leads from stage P to the stage of its next node
abbrev Good : Stage → Rule → Type 0
Good P r = Move r.symbol P r.action (stage r.next)

-- ---- the rules that many nodes share

whole : Ending nothing
whole s = no_item

no_more_terms : Ending terms
no_more_terms s = no_term_holds

no_more_orders : Ending orders
no_more_orders s = no_order_holds

new_block : {P : Stage} → Ending P → Each (Good P) blocks
new_block end = (ending end, (ending end, (ending end, (ending end, (ending end, (ending end, (ending end, tt)))))))

same_body : {t : Terminal} {k : Kind} → Move t (body k) Pass (body k)
same_body = passing (λ s is c. c)

next_order_holds : {P : Stage} → Orders P → Ending P → Each (Good P) next_order
next_order_holds w end = (order_key w, (order_harmony w, (order_harmony w, (ending end, tt))))

no_call_numbers : Ending numbers
no_call_numbers s = no_more_numbers no_order_holds

-- ---- the rules of each node

good : (q : Node) → Each (Good (stage q)) (rules q)
unfolding rules
good Begin = new_block whole
good Finish = tt
good IntervalName = (declaring whole, (declaring whole, tt))
good IntervalEquals = (same_body, tt)
good IntervalBody = (hold, (named_term opens_interval, (named_term opens_interval, tt)))
good IntervalKind = (ratio_first, (root_degree, (factor_first, (factor_first, tt))))
good SecondPart = (ratio_second, tt)
good RootRadicand = (root_radicand, tt)
good IntervalSign = (sign, (sign, (declaring no_more_terms, (declaring no_more_terms, new_block no_more_terms))))
good IntervalTerm = (factor opens_term, (named_term opens_term, (named_term opens_term, tt)))
good IntervalTermName = (named_term opens_term, (named_term opens_term, tt))
good IntervalNext = (declaring whole, (declaring whole, new_block whole))
good ToneName = (declaring whole, (declaring whole, tt))
good ToneEquals = (same_body, tt)
good ToneBody = (frequency, (base, (base, tt)))
good ToneSign = (sign, (sign, (declaring no_more_terms, (declaring no_more_terms, new_block no_more_terms))))
good ToneTerm = (factor opens_term, (named_term opens_term, (named_term opens_term, tt)))
good ToneTermName = (named_term opens_term, (named_term opens_term, tt))
good ToneNext = (declaring whole, (declaring whole, new_block whole))
good SystemName = (declaring whole, (declaring whole, tt))
good SystemEquals = (same_body, tt)
good SystemAnchor = (system_anchor, tt)
good SystemOpen = (passing (λ s is c. c), tt)
good SystemFirst = (muted_place_mark next_place, (tone_place_name, (tone_place_name, tt)))
good SystemPosition = (muted_place_mark next_place, (muted_place_mark no_more_places, (tone_place_name, (tone_place_name, tt))))
good SystemComma = (place_end next_place, (place_end no_more_places, tt))
good SystemPeriod = (factor opens_sequence, (named_term opens_sequence, (named_term opens_sequence, tt)))
good SystemSign = (sign, (sign, (declaring no_more_terms, (declaring no_more_terms, new_block no_more_terms))))
good SystemTerm = (factor opens_term, (named_term opens_term, (named_term opens_term, tt)))
good SystemTermName = (named_term opens_term, (named_term opens_term, tt))
good RetuningName = (declaring whole, (declaring whole, tt))
good RetuningEquals = (names_begin, (same_body, tt))
good RetuningBody = (amount, (amount_name, (amount_name, (same_body, (same_body, tt)))))
good RetuningInside =
    (same_body, (period_mark, (muted_mark first next_position, (kept_mark first, (tone_name first, (tone_name first, tt))))))
good RetuningNext = (declaring whole, (declaring whole, new_block whole))
good AnchorOperator = (anchor_same, (same_body, (same_body, tt)))
good AnchorPlusNumber = (amount, (amount_name, (amount_name, tt)))
good AnchorMinusNumber = (amount, (amount_name, (amount_name, tt)))
good AnchorOpen = (ending whole, tt)
good AnchorClose = (ending whole, tt)
good WidthBody = (amount, (amount_name, (amount_name, (same_body, tt))))
good WidthOperator = (width_same, (same_body, (same_body, (same_body, (same_body, tt)))))
good WidthPlusNumber = (amount, (amount_name, (amount_name, tt)))
good WidthMinusNumber = (amount, (amount_name, (amount_name, tt)))
good WidthTimesNumber = (amount, (amount_name, (amount_name, tt)))
good WidthOverNumber = (amount, (amount_name, (amount_name, tt)))
good WidthClose = (ending whole, tt)
good WidthBracket = (ending whole, tt)
good PeriodBody = (period_onward, (factor opens_period, (named_term opens_period, (named_term opens_period, tt))))
good PeriodSign = (sign, (sign, (declaring no_more_terms, (declaring no_more_terms, new_block no_more_terms))))
good PeriodTerm = (factor opens_term, (named_term opens_term, (named_term opens_term, tt)))
good PeriodTermName = (named_term opens_term, (named_term opens_term, tt))
good TonesSign = (tone_sign, (tone_sign, (position_end, (ending positions_may_end, tt))))
good TonesTerm = (tone_factor, (tone_term_step, (tone_term_step, tt)))
good TonesTermName = (tone_term_step, (tone_term_step, tt))
good TonesPosition =
    (muted_mark further next_position, (muted_mark further no_more_positions, (kept_mark further, (tone_name further, (tone_name further, tt)))))
good LogicName = (declaring whole, (declaring whole, tt))
good LogicTrigger = (same_body, (logic_harmony, (logic_harmony, tt)))
good LogicLetter = (logic_letter, tt)
good LogicEquals = (passing (λ s is c. c), tt)
good LogicStart = (start_none, (start_name, (start_name, tt)))
good LogicOpen = (numbers_on, (numbers_end, tt))
good OrderTrigger = next_order_holds as_orders no_more_orders
good OrderLetter = (order_letter, tt)
good OrderArrow = (passing (λ s is c. c), tt)
good OrderName = (order_name, (order_name, tt))
good LogicNext = (declaring whole, (declaring whole, new_block whole))
good HarmonyName = (declaring whole, (declaring whole, tt))
good HarmonyEquals = (same_body, tt)
good HarmonyOpen = (harmony_opens, tt)
good HarmonyKey = (star, (plain, tt))
good HarmonyStarred = (starred, tt)
good HarmonyComma = (next_key, (ending no_more_keys, tt))
good HarmonyNext = (declaring whole, (declaring whole, new_block whole))
good PlaceholderName = (placeholder, (placeholder, tt))
good PlaceholderComma = (names_on, (names_end, tt))
good PlaceholderEquals = (same_body, tt)
good StartNumber = (call_number_step, tt)
good StartComma = (numbers_on, (numbers_end, tt))
good StartOpen = (passing (λ s is c. c), tt)
good OrderCalled = (numbers_on, next_order_holds after_numbers no_call_numbers)
good OrderNumber = (call_number_step, tt)
good OrderComma = (numbers_on, (numbers_end, tt))

-- the rule that is picked for a terminal is one of the list, and is for that terminal
picked_good : (F : Rule → Type 0) (rs : List Rule) (t : Terminal) {r : Rule} → Each F rs → picked rs t ≡ Some r → F r × (t ≡ r.symbol)
unfolding picked
picked_good F [] t {r} h e = absurd (none-some r e)
picked_good F (x ∷ xs) t {r} h e = go (same_terminal t x.symbol) refl (picked_good F xs t h.1) e
  where
    go : (b : Bool) → same_terminal t x.symbol ≡ b → (picked xs t ≡ Some r → F r × (t ≡ r.symbol))
        → elim b [ true ↦ Some x | false ↦ picked xs t ] ≡ Some r → F r × (t ≡ r.symbol)
    go true p later q =
        let same = same_Some x r q in
        (subst F same h.0, same_terminal_holds t x.symbol p ∙ ap (λ (y : Rule). y.symbol) same)
    go false p later q = later q

-- ---- a whole text

-- what is ahead at a node
AheadAt : Node → Progress → List Item → Type 0
AheadAt q s is = Fit s → Ahead (stage q) s is

pub read_shape : (text : List ℕ) → (read_items text).number ≡ done → Formed (read_items text).items
unfolding AheadAt
read_shape text e = out (walk text AheadAt (λ s f. ahead [] no_item no_more) kept e fit_one)
  where
    kept : Kept text AheadAt
    kept n s y r q = let g = picked_good (Good (stage n)) (rules n) (terminal_of text y) (good n) q in keeps_ahead (g.0.leads text s y g.1)

    out : {is : List Item} → Ahead nothing begun.kept is → Formed is
    out (ahead _ no_item r) = r
