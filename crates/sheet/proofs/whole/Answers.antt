use Rattle.std.proofs.Common.{ℕ, List, ◌≡◌, ap, ◌∙◌}
use Rattle.model.specs.declared.Blanks.{Blanks}
use Rattle.model.specs.declared.Side.TheVariants.{Lower, Upper}
use Rattle.sheet.specs.declared.Progress.{Progress}
use Rattle.sheet.specs.Reading.{bounds_section, needs_section, end_of_sheet, head_of, lower_of, upper_of, last_of, whole_of}
use Rattle.sheet.proofs.Steps.{Few, head_few, side-few, last-few, end-few}
use Rattle.sheet.proofs.whole.Goals as goal

-- no section gives a record of more than 16 items
lower-few : (b : Blanks) (s : List ℕ) → Few (lower_of b s)
unfolding lower_of
lower-few b s = side-few s Lower (head_of b s) (head_few b s)

upper-few : (b : Blanks) (s : List ℕ) → Few (upper_of b s)
unfolding upper_of
upper-few b s = side-few s Upper (lower_of b s) (lower-few b s)

whole-few : (b : Blanks) (s : List ℕ) → Few (end_of_sheet s (last_of b s))
unfolding last_of
whole-few b s = end-few s (needs_section s (upper_of b s)) (last-few s (upper_of b s) (upper-few b s))

-- what each section gives, by the sheet alone
lower-is : (b : Blanks) (s : List ℕ) (h l : Progress) → h ≡ head_of b s → l ≡ bounds_section s Lower h → l ≡ lower_of b s
unfolding lower_of
lower-is b s h l head lower = lower ∙ ap (bounds_section s Lower) head

upper_is : (b : Blanks) (s : List ℕ) (l u : Progress) → l ≡ lower_of b s → u ≡ bounds_section s Upper l → u ≡ upper_of b s
unfolding upper_of
upper_is b s l u lower upper = upper ∙ ap (bounds_section s Upper) lower

end_is : (b : Blanks) (s : List ℕ) (u n e : Progress) → u ≡ upper_of b s → n ≡ needs_section s u → e ≡ end_of_sheet s n → e ≡ end_of_sheet s (last_of b s)
unfolding last_of
end_is b s u n e upper needs end = end ∙ ap (end_of_sheet s) (needs ∙ ap (needs_section s) upper)

pub bounds_section-lower-requires : goal.bounds_section-lower-requires
bounds_section-lower-requires c = rw c.head-h.ensures (head_few c.args.blanks c.args.s.now)

pub bounds_section-upper-requires : goal.bounds_section-upper-requires
bounds_section-upper-requires c =
    rw (lower-is c.args.blanks c.args.s.now _ _ c.head-h.ensures c.bounds_section-lower.ensures) (lower-few c.args.blanks c.args.s.now)

pub needs_section-needs-requires : goal.needs_section-needs-requires
needs_section-needs-requires c =
    let l = lower-is c.args.blanks c.args.s.now _ _ c.head-h.ensures c.bounds_section-lower.ensures in
    rw (upper_is c.args.blanks c.args.s.now _ _ l c.bounds_section-upper.ensures) (upper-few c.args.blanks c.args.s.now)

pub ranges_of_sheet-requires : goal.ranges_of_sheet-requires
ranges_of_sheet-requires c =
    let l = lower-is c.args.blanks c.args.s.now _ _ c.head-h.ensures c.bounds_section-lower.ensures in
    let u = upper_is c.args.blanks c.args.s.now _ _ l c.bounds_section-upper.ensures in
    rw (end_is c.args.blanks c.args.s.now _ _ _ u c.needs_section-needs.ensures c.end_of_sheet-end.ensures) (whole-few c.args.blanks c.args.s.now)

pub returns : goal.returns
unfolding whole_of
returns c =
    let l = lower-is c.args.blanks c.args.s.now _ _ c.head-h.ensures c.bounds_section-lower.ensures in
    let u = upper_is c.args.blanks c.args.s.now _ _ l c.bounds_section-upper.ensures in
    rw (← end_is c.args.blanks c.args.s.now _ _ _ u c.needs_section-needs.ensures c.end_of_sheet-end.ensures) c.ranges_of_sheet.ensures
