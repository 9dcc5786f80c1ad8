use Rattle.std.proofs.Common.{◌≡◌, ◌++◌, codes, sym, subst, rules}
use Rattle.mk_lines.specs.Device.{Writes}
use Rattle.mk_escape.specs.Escapes.{escaped}
use Rattle.mk_escape.specs.declared.Layout.TheVariants.{Escaped}
use Rattle.mkedit.specs.EndMessages.{end_message}
use Rattle.mkedit.proofs.ending.put_message.Goals as goal

pub returns-in-NotOpened : goal.returns-in-NotOpened
returns-in-NotOpened g c =
    let is : end_message c.args.end.now ≡ codes "mkedit: cannot open " ++ (escaped Escaped c.as_bytes-name.result.now ++ codes "\n") = cc in
    subst (Writes _ _ _ _ _ _) (sym is) c.write_name.ensures
