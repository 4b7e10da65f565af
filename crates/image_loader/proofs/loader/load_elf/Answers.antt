use Rattle.std.proofs.Common.{◌≡◌, ℕ, List, map, Vec, Global, ap, sym, ◌∙◌, rules}
use Rattle.std.specs.Prelude.{None}
use Rattle.std.specs.List.{list_all}
use Rattle.std.proofs.lemmas.Result.{err_from_is_err_and}
use Rattle.flex_base.specs.Loaded.{part_fits, image_fits}
use Rattle.image_loader.specs.Headers.{elf_header}
use Rattle.image_loader.specs.Faults.{first_fault, header_tests, table_tests, entry_tests, elf_tests}
use Rattle.image_loader.specs.Loading.{elf_image}
use Rattle.image_loader.specs.declared.headers.ElfHeader.{ElfHeader}
use Rattle.image_loader.proofs.Tables.{no_fault_second}
use Rattle.image_loader.proofs.Answering.{answers_fault, fits_without_fault}
use Rattle.image_loader.proofs.loader.load_elf.Goals as goal

shown : ℕ × Vec ℕ Global → ℕ × List ℕ
shown part = (part.0, part.1.items)

-- where the file has no fault, the segments of its header have none
no_fault : (file : List ℕ) (ram : ℕ) (header : ElfHeader) → header ≡ elf_header file → None ≡ first_fault (elf_tests file ram) → first_fault (table_tests file ram header.e_phnum) ≡ None
no_fault file ram header is none = ap (λ (h : ElfHeader). first_fault (table_tests file ram h.e_phnum)) is ∙ no_fault_second (header_tests file) (table_tests file ram (elf_header file).e_phnum) (entry_tests file ram) (sym none)

pub returns-in_err-header-clause-outcome : goal.returns-in_err-header-clause-outcome
returns-in_err-header-clause-outcome c =
    let p = err_from_is_err_and c.from_residual.result c.from_residual.ensures.1 in
    rw (p.1, p.2) (answers_fault c.args.file.now c.args.ram _ (elf_image c.args.file.now) (sym c.in_err-header.ensures.fault))

pub laid_segments-requires-clause-checked : goal.laid_segments-requires-clause-checked
laid_segments-requires-clause-checked c = (c.args.ram, search rules, no_fault c.args.file.now c.args.ram c.in_ok-header.header c.in_ok-header.ensures.header.fields c.in_ok-header.ensures.fault)

pub returns-in-Ok-clause-fits : goal.returns-in-Ok-clause-fits
unfolding shown
returns-in-Ok-clause-fits c =
    let file = c.args.file.now in
    let ram = c.args.ram in
    let header = c.in_ok-header.header in
    let fit = ap (list_all (part_fits ram)) c.into_list.ensures ∙ c.in-Ok.ensures.fit ram (no_fault file ram header c.in_ok-header.ensures.header.fields c.in_ok-header.ensures.fault) in
    ap (λ (h : ElfHeader). image_fits ram (record { entry = h.e_entry; parts = map shown c.into_list.result.items })) c.in_ok-header.ensures.header.fields
    ∙ fits_without_fault file ram (map shown c.into_list.result.items) (sym c.in_ok-header.ensures.fault) fit
