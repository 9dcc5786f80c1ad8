use Rattle.std.proofs.Common.{◌≡◌, ◌∙◌, ◌++◌, ◌≤◌, ap, sym, subst, arith, rules, append_assoc, length, drop, get_or}
use Rattle.std.proofs.KnownBytes.{Appends-trans}
use Rattle.mk_lines.specs.Device.{AppendsPrefix}
use Rattle.mk_lines.proofs.PrefixLemmas.{AppendsPrefix-front, AppendsPrefix-more}
use Rattle.mk_escape.specs.Escapes.{byte_shown, escaped, shown_on}
use Rattle.mk_escape.proofs.ShownLemmas.{shown-step}
use Rattle.mk_escape.proofs.write_escaped.Goals as goal

pub bytes-preserved : goal.bytes-preserved
bytes-preserved g c =
    let rest = c.bytes.rest.now in
    let some : 1 ≤ length rest = search rules in
    let below : c.split_at.result.1.now ≡ drop 1 rest = search rules in
    let (works, flushes, before, out, same) = c.bytes.invariant in
    let step = shown-step c.args.layout c.bytes.left c.bytes.is_control rest some in (
      search rules,
      c.in_ok-write_byte.ensures.unflushed ∙ flushes,
      before ++ _,
      Appends-trans _ _ _ _ _ out c.in_ok-write_byte.ensures.whole,
      same ∙ (ap (λ t. before ++ t) (step ∙ cc) ∙ sym (append_assoc before _ _)),
    )

pub returns-in_err-write_byte : goal.returns-in_err-write_byte
returns-in_err-write_byte g c =
    let rest = c.bytes.rest.now in
    let some : 1 ≤ length rest = search rules in
    let (works, flushes, before, out, same) = c.bytes.invariant in
    let is : escaped c.args.layout c.args.text.now ≡ before ++ (byte_shown c.control_after-is_control.result (get_or rest 0 0)
    ++ shown_on c.args.layout c.left_after-left.result c.control_after-is_control.result (drop 1 rest)) =
    same ∙ ap (λ t. before ++ t) (shown-step c.args.layout c.bytes.left c.bytes.is_control rest some ∙ cc) in
    record {
      whole = search rules;
      prefix = subst (AppendsPrefix _ _) (sym is)
          (AppendsPrefix-more _ _ _ _ _ out (AppendsPrefix-front _ _ _ _ c.in_err-write_byte.ensures.prefix));
      works = search rules;
      fault = search rules;
      unflushed = c.in_err-write_byte.ensures.unflushed ∙ flushes;
    }
