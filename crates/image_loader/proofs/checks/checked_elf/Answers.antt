use Rattle.std.proofs.Common.{ap, sym, ◌∙◌}
use Rattle.std.proofs.lemmas.Result.{err_from_is_err_and}
use Rattle.image_loader.specs.Headers.{elf_header}
use Rattle.image_loader.specs.Faults.{first_fault, header_tests, table_tests, entry_tests}
use Rattle.image_loader.specs.declared.headers.ElfHeader.{ElfHeader}
use Rattle.image_loader.proofs.Tables.{fault_second, fault_last}
use Rattle.image_loader.proofs.checks.checked_elf.Goals as goal

pub returns-in_err-check_segments-clause-fault : goal.returns-in_err-check_segments-clause-fault
returns-in_err-check_segments-clause-fault c =
    let file = c.args.file.now in
    let ram = c.args.ram in
    let p = err_from_is_err_and c.from_residual-in_err-check_segments.result c.from_residual-in_err-check_segments.ensures.1 in
    let found = ap (λ (h : ElfHeader). first_fault (table_tests file ram h.e_phnum)) (sym c.in_ok-header.ensures.header.fields) ∙ sym c.in_err-check_segments.ensures in
    rw (p.1, p.2) (sym (fault_second (header_tests file) (table_tests file ram (elf_header file).e_phnum) (entry_tests file ram) _ (sym c.in_ok-header.ensures.fault) found))

pub returns-in_err-check_entry-clause-fault : goal.returns-in_err-check_entry-clause-fault
returns-in_err-check_entry-clause-fault c =
    let file = c.args.file.now in
    let ram = c.args.ram in
    let p = err_from_is_err_and c.from_residual-in_err-check_entry.result c.from_residual-in_err-check_entry.ensures.1 in
    let none = ap (λ (h : ElfHeader). first_fault (table_tests file ram h.e_phnum)) (sym c.in_ok-header.ensures.header.fields) ∙ sym c.in_ok-check_segments.ensures in
    rw (p.1, p.2) (c.in_err-check_entry.ensures file c.in_ok-header.ensures.header ∙ sym (fault_last (header_tests file) (table_tests file ram (elf_header file).e_phnum) (entry_tests file ram) (sym c.in_ok-header.ensures.fault) none))

pub returns-clause-fault : goal.returns-clause-fault
returns-clause-fault c =
    let file = c.args.file.now in
    let ram = c.args.ram in
    let none = ap (λ (h : ElfHeader). first_fault (table_tests file ram h.e_phnum)) (sym c.in_ok-header.ensures.header.fields) ∙ sym c.in_ok-check_segments.ensures in
    c.in_ok-check_entry.ensures file c.in_ok-header.ensures.header ∙ sym (fault_last (header_tests file) (table_tests file ram (elf_header file).e_phnum) (entry_tests file ram) (sym c.in_ok-header.ensures.fault) none)
