-- What characters that come, and nodes that begin, do to a marked tree that is being made.
use Rattle.std.proofs.Common.{◌≡◌, ◌<◌, refl, ap, sym, subst, ◌∙◌, ℕ, Bool, true, false, List, [], ◌∷◌, ◌++◌, length, get_or, append-nil, arith, length-append}
use Rattle.std.proofs.lemmas.List.{drop-append-le, drop_all}
use Rattle.std.proofs.lemmas.List.Sums.{sum_by-append}
use Rattle.ix_model.specs.declared.grammar.Mark.TheVariants as mark
use Rattle.ix_marks.specs.declared.item.Item.{Item}
use Rattle.ix_marks.specs.declared.item.Item.TheVariants.{Begin}
use Rattle.ix_marks.specs.declared.item.Attr.{Attr}
use Rattle.ix_marks.specs.declared.building.Open.{Open}
use Rattle.ix_marks.specs.declared.building.Open.TheVariants as open_node
use Rattle.ix_model.proofs.AllOf.{all_append}
use Rattle.ix_marks.specs.Building.{AreOpen, IsInState, Stands, with_chars}
use Rattle.ix_marks.specs.Counted.{attribute_count, run_length}
use Rattle.ix_marks.specs.InRange.{AreItemsIn, IsItemIn}
use Rattle.ix_marks.specs.Levels.{State, outside, inside, enter, read}
use Rattle.ix_marks.proofs.Growing.{attributes_still, items_still, open_grows, deep_grows}
use Rattle.ix_marks.proofs.Runs.{chars_counted, chars_fit, chars_in, open_chars}

not_both : {A : Type 0} (b : Bool) → b ≡ true → b ≡ false → A
not_both b h k = absurd (cc)

module _ (names : List (List ℕ)) (attrs : List Attr) (chars : List ℕ) where
  no_attrs : (F : List Attr → Type 0) → F (attrs ++ []) → F attrs
  no_attrs F h = subst F (append-nil attrs) h

  -- characters come
  pub stands_read : (more : List ℕ) (opens : List Open) (items : List Item) (waiting : List Attr) (low : ℕ) (in_value : Bool) (st : State) →
      Stands names attrs chars opens items waiting low in_value st → Stands names attrs (chars ++ more) opens items waiting low in_value (read st more)
  stands_read more opens items waiting low in_value st h = record {
    items_in = no_attrs (λ (zs : List Attr). AreItemsIn names zs (chars ++ more) items) (items_still names attrs chars [] more items h.items_in);
    attrs_in = attributes_still names chars more attrs h.attrs_in;
    waiting_in = attributes_still names chars more waiting h.waiting_in;
    counted = h.counted;
    runs_fit = h.runs_fit;
    low_in = omega (arith, h.low_in, length-append chars more);
    state = state st h.state;
  }
    where
      state : (st : State) → IsInState names attrs chars opens items waiting low in_value st → IsInState names attrs (chars ++ more) opens items waiting low in_value (read st more)
      state (outside ls ps cs ats) k = (
        k.0,
        drop-append-le low chars more h.low_in ∙ ap (λ z. z ++ more) k.1,
        no_attrs (λ (zs : List Attr). AreOpen names zs (chars ++ more) ls ps ats opens items waiting) (open_grows names attrs chars [] more h.attrs_in ls ps ats opens items waiting h.items_in h.waiting_in k.2),
      )
      state (inside depth name val ls ps ats) k =
          (k.0, deep_grows names attrs chars more h.attrs_in depth name val ls ps ats opens items waiting h.items_in h.waiting_in k.1)

  -- a node begins
  pub stands_element : (n : ℕ) (opens : List Open) (items : List Item) (waiting : List Attr) (low : ℕ) (in_value : Bool) (st : State) → n < length names → in_value ≡ false →
      Stands names attrs chars opens items waiting low in_value st →
      Stands names attrs chars (opens ++ open_node.Element n (length (with_chars items low (length chars))) (length waiting) ∷ []) (with_chars items low (length chars) ++ Begin n 0 0 ∷ []) waiting (length chars) in_value (enter st (get_or names n []) mark.Element)
  stands_element n opens items waiting low in_value st l f h = record {
    items_in = all_append (IsItemIn names attrs chars) (with_chars items low (length chars)) (Begin n 0 0 ∷ []) (chars_in names attrs chars items low h.items_in) ((l, omega arith, omega arith), tt);
    attrs_in = h.attrs_in;
    waiting_in = h.waiting_in;
    counted = omega (arith, h.counted, chars_counted items low (length chars), sum_by-append attribute_count (with_chars items low (length chars)) (Begin n 0 0 ∷ []));
    runs_fit = omega (arith, chars_fit items low (length chars) h.low_in h.runs_fit, sum_by-append run_length (with_chars items low (length chars)) (Begin n 0 0 ∷ []));
    low_in = omega arith;
    state = state st h.state;
  }
    where
      state : (st : State) → IsInState names attrs chars opens items waiting low in_value st →
          IsInState names attrs chars (opens ++ open_node.Element n (length (with_chars items low (length chars))) (length waiting) ∷ []) (with_chars items low (length chars) ++ Begin n 0 0 ∷ []) waiting (length chars) in_value (enter st (get_or names n []) mark.Element)
      state (outside ls ps cs ats) k = (
        k.0,
        drop_all (length chars) chars (omega arith),
        record {
          outer = opens;
          before = with_chars items low (length chars);
          behind = [];
          others = waiting;
          own = [];
          number = n;
          opens_are = refl;
          number_in = l;
          name_is = refl;
          items_are = refl;
          waiting_are = sym (append-nil waiting);
          content = refl;
          attributes = refl;
          around = open_chars names attrs chars ls ps cs ats opens items waiting low h.low_in k.1 k.2;
        },
      )
      state (inside depth name val ls ps ats) k = not_both in_value k.0 f

  pub stands_attribute : (n : ℕ) (opens : List Open) (items : List Item) (waiting : List Attr) (low : ℕ) (in_value : Bool) (st : State) → n < length names → in_value ≡ false →
      Stands names attrs chars opens items waiting low in_value st →
      Stands names attrs chars (opens ++ open_node.Attribute n (length chars) ∷ []) (with_chars items low (length chars)) waiting (length chars) true (enter st (get_or names n []) mark.Attribute)
  stands_attribute n opens items waiting low in_value st l f h = record {
    items_in = chars_in names attrs chars items low h.items_in;
    attrs_in = h.attrs_in;
    waiting_in = h.waiting_in;
    counted = chars_counted items low (length chars) ∙ h.counted;
    runs_fit = chars_fit items low (length chars) h.low_in h.runs_fit;
    low_in = omega arith;
    state = state st h.state;
  }
    where
      state : (st : State) → IsInState names attrs chars opens items waiting low in_value st →
          IsInState names attrs chars (opens ++ open_node.Attribute n (length chars) ∷ []) (with_chars items low (length chars)) waiting (length chars) true (enter st (get_or names n []) mark.Attribute)
      state (outside ls ps cs ats) k = (
        refl,
        record {
          outer = opens;
          number = n;
          low = length chars;
          opens_are = refl;
          number_in = l;
          name_is = refl;
          low_in = omega arith;
          value_is = drop_all (length chars) chars (omega arith);
          around = open_chars names attrs chars ls ps cs ats opens items waiting low h.low_in k.1 k.2;
        },
      )
      state (inside depth name val ls ps ats) k = not_both in_value k.0 f
