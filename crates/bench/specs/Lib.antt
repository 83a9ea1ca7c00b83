-- SPDX-License-Identifier: Apache-2.0
pub mod Sum
pub mod Reel
pub mod Run
