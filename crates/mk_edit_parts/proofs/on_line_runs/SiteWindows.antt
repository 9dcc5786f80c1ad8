-- Windows for a site serve each walk that looks for what the site means.
use Rattle.std.proofs.Common.{◌≡◌, ap, ◌∙◌, subst, ℕ, List, Option}
use Rattle.std.proofs.lemmas.Bool.{or_parts}
use Rattle.mk_tree.specs.LocatedLines.{LocatedLine}
use Rattle.mk_edit_language.specs.Addresses.{Address}
use Rattle.mk_edit_language.specs.Edits.{Site, BeforeRun, AfterRun, OfRun}
use Rattle.mk_edit_language.specs.LineRuns.{site_address}
use Rattle.mk_edit_parts.specs.Windows.{AreWindows, concerns, concerns_site, first_place, may_begin_run, says_first}
use Rattle.mk_edit_parts.specs.declared.window.Window.{Window}
use Rattle.mk_edit_parts.proofs.on_finding.WindowLemmas.{windows-fewer}

-- for its address
pub windows-address : (s : Site) (a : Option Address) (d : List LocatedLine) (ws : List Window) → a ≡ site_address s → AreWindows (concerns_site s) first_place d ws → AreWindows (concerns a) first_place d ws
windows-address s a d ws e W =
    windows-fewer (concerns_site s) (concerns a) first_place d ws
    (λ l h. ap (λ x. concerns x l) e ∙ (or_parts (concerns (site_address s) l) (may_begin_run s l) h).0) W

-- for its runs
run-windows : (s : Site) (d : List LocatedLine) (ws : List Window) → AreWindows (concerns_site s) first_place d ws → AreWindows (may_begin_run s) first_place d ws
run-windows s d ws W =
    windows-fewer (concerns_site s) (may_begin_run s) first_place d ws (λ l h. (or_parts (concerns (site_address s) l) (may_begin_run s l) h).1) W

pub windows-before : (s : Site) (nth : Option ℕ) (o : List (List ℕ)) (d : List LocatedLine) (ws : List Window) → s ≡ BeforeRun nth o → AreWindows (concerns_site s) first_place d ws → AreWindows (says_first o) first_place d ws
windows-before s nth o d ws e W = subst (λ z. AreWindows (may_begin_run z) first_place d ws) e (run-windows s d ws W)

pub windows-after : (s : Site) (nth : Option ℕ) (o : List (List ℕ)) (d : List LocatedLine) (ws : List Window) → s ≡ AfterRun nth o → AreWindows (concerns_site s) first_place d ws → AreWindows (says_first o) first_place d ws
windows-after s nth o d ws e W = subst (λ z. AreWindows (may_begin_run z) first_place d ws) e (run-windows s d ws W)

pub windows-of : (s : Site) (nth : Option ℕ) (o : List (List ℕ)) (d : List LocatedLine) (ws : List Window) → s ≡ OfRun nth o → AreWindows (concerns_site s) first_place d ws → AreWindows (says_first o) first_place d ws
windows-of s nth o d ws e W = subst (λ z. AreWindows (may_begin_run z) first_place d ws) e (run-windows s d ws W)
